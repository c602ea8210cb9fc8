-- What the answer of a read says of the files that are told, and of the count of faults.
use Rattle.std.specs.Prelude.{◌≡◌, ℕ, ◌<◌, ◌≤◌, List, length, Option, Some, None, IfSome, IsSomeAnd, Result, Ok, Err}
use Rattle.outside.specs.declared.files.FileRefusal.{FileRefusal}
use Rattle.outside.specs.declared.files.FileRefusal.TheVariants.{NotHeld, TooLong, Failed, OutOfMemory}

-- what a store tells: nothing, or for each name the bytes of its file, if it has one
abbrev pub Held : Type 0
Held = Option (List ℕ → Option (List ℕ))

-- a store as its caller knows it: what it holds, as far as it tells, how many calls of `read` there were, and how many failed
pub record StoreState : Type 0 where
  pub held : Held
  pub reads : ℕ
  pub faults : ℕ

-- the files are told, and none has this name
abbrev pub IsAbsent : Held → List ℕ → Type 0
IsAbsent held name = IsSomeAnd held (λ file_of. file_of name ≡ None)

-- the files are told, and the one of this name is longer than the limit
abbrev pub IsLonger : Held → List ℕ → ℕ → Type 0
IsLonger held name limit = IsSomeAnd held (λ file_of. IsSomeAnd (file_of name) (λ bytes. limit < length bytes))

-- where the files are told, the one of this name is longer than the limit
abbrev pub IsLongerIfTold : Held → List ℕ → ℕ → Type 0
IsLongerIfTold held name limit = IfSome held (λ file_of. IsSomeAnd (file_of name) (λ bytes. limit < length bytes))

-- the files are told, and the one of this name is no longer than the limit
abbrev pub IsWithin : Held → List ℕ → ℕ → Type 0
IsWithin held name limit = IsSomeAnd held (λ file_of. IsSomeAnd (file_of name) (λ bytes. length bytes ≤ limit))

-- where the files are told, the one of this name has these bytes
abbrev pub HasBytes : Held → List ℕ → List ℕ → Type 0
HasBytes held name bytes = IfSome held (λ file_of. file_of name ≡ Some bytes)

-- a fact for the answer NotHeld
abbrev pub OnNotHeld : {T : Type 0} → Result T FileRefusal → Type 0 → Type 0
OnNotHeld (Err NotHeld) P = P
OnNotHeld _ P = Unit {0}

-- a fact for the answer TooLong
abbrev pub OnTooLong : {T : Type 0} → Result T FileRefusal → Type 0 → Type 0
OnTooLong (Err TooLong) P = P
OnTooLong _ P = Unit {0}

-- a fact for the answer Failed
abbrev pub OnFailed : {T : Type 0} → Result T FileRefusal → Type 0 → Type 0
OnFailed (Err Failed) P = P
OnFailed _ P = Unit {0}

-- a fact for each answer but Failed
abbrev pub UnlessFailed : {T : Type 0} → Result T FileRefusal → Type 0 → Type 0
UnlessFailed (Err Failed) P = Unit {0}
UnlessFailed _ P = P

-- the answer is this refusal, or the call failed, or memory ran out
abbrev pub IsRefusedAs : {T : Type 0} → FileRefusal → Result T FileRefusal → Type 0
IsRefusedAs refusal (Ok file) = ⊥
IsRefusedAs refusal (Err Failed) = Unit {0}
IsRefusedAs refusal (Err OutOfMemory) = Unit {0}
IsRefusedAs refusal (Err answer) = answer ≡ refusal

-- the answer is the file, or the call failed, or memory ran out
abbrev pub IsGiven : {T : Type 0} → Result T FileRefusal → Type 0
IsGiven (Err NotHeld) = ⊥
IsGiven (Err TooLong) = ⊥
IsGiven _ = Unit {0}
