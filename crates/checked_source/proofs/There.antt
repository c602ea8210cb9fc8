-- The function that was asked for is there.
use Rattle.std.proofs.Common.{◌≡◌, ℕ, List, [], Result, Ok, Err, refl, ap, ◌∙◌, subst, IsTrue}
use Rattle.hl_data.specs.declared.typed.TypedFunction.{TypedFunction}
use Rattle.hl_data.specs.declared.value.Entry.{Entry}
use Rattle.hl_syntax.specs.declared.kinds.TypedName.{TypedName}
use Rattle.hl_syntax.specs.declared.rules.Rule.TheVariants.{K20}
use Rattle.hl_syntax.specs.declared.tree.Item.{Item}
use Rattle.simplicityhl.specs.Written.{Broken}
use Rattle.hl_rules.specs.Declared.{has_function}
use Rattle.hl_rules.specs.Programs.{Checked, checked, checked_of, program_walk, items_walk}
use Rattle.hl_rules.specs.Steps.{needs}
use Rattle.hl_rules.specs.Walks as walks
use Rattle.hl_rules.specs.Witnesses.{listed_witnesses}
use Rattle.hl_typing.proofs.Steps.{ran, ok_same, needs_ok}

pub asked_there : (source : List Item) (asked : List ℕ) (entries : List Entry) (edition end : ℕ) (program : Checked) → checked source asked entries edition end ≡ Ok program → IsTrue (has_function program.functions asked)
unfolding checked
asked_there source asked entries edition end program h = walked (program_walk source asked entries edition end []) refl h
  where
    walked : (w : Result (List TypedFunction × List TypedName) Broken) → program_walk source asked entries edition end [] ≡ w → checked_of edition w ≡ Ok program → IsTrue (has_function program.functions asked)
    walked (Err broken) is e = absurd (cc)
    walked (Ok found) is e =
        let a = ran (items_walk entries edition (record { aliases = []; functions = [] }) source []) _ found is in
        let b = ran (walks.needs (has_function a.from.0.functions asked) K20 (record { start = end; end = end }) a.from.1) _ found a.is in
        let c = ran (needs (has_function a.from.0.functions asked) K20 (record { start = end; end = end })) _ b.from b.was in
        let there : IsTrue (has_function a.from.0.functions asked) = needs_ok (has_function a.from.0.functions asked) K20 (record { start = end; end = end }) c.from c.was in
        let same : a.from.0.functions ≡ found.0 = ap (λ p. p.0) (ok_same b.is) in
        let made : ◌≡◌ {A = Checked} (record { functions = found.0; witnesses = listed_witnesses edition found.1; edition = edition }) program = ok_same e in
        subst (λ fs. IsTrue (has_function fs asked)) (same ∙ ap (λ (p : Checked). p.functions) made) there
