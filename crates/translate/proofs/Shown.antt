-- What an answer shows, by what it is equal to.
use Rattle.std.proofs.Common.{◌≡◌, ◌∙◌, Result, Ok, Err}
use Rattle.std.specs.Prelude.{OnOk}
use Rattle.std.specs.declared.alloc.AllocError.{AllocError}

-- equal where it ends well, and so to what that is equal to
pub shown : {A X : Type 0} (r : Result A AllocError) (z x y : X) → OnOk r (z ≡ x) → x ≡ y → OnOk r (z ≡ y)
shown (Ok _) z x y h e = h ∙ e
shown (Err _) z x y h e = tt
