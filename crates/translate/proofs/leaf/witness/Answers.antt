-- Answers to the goals of `witness`.
use Rattle.std.proofs.Common.{◌≡◌, ◌∙◌, sym, ap, subst, map, option_map}
use Rattle.hl_terms.specs.Paths.{path_term}
use Rattle.layout_laws.specs.Scopes.{step_of}
use Rattle.simplicityhl.specs.Kinds as kinds
use Rattle.simplicity.specs.Makes as make
use Rattle.hl_terms.specs.Translated.{or_fail, witness_or, witness_number}
use Rattle.term_builder.specs.State.{state_of}
use Rattle.term_builder.specs.Steps.{with_term}
use Rattle.translate.proofs.Paths.{witness_is}
use Rattle.translate.proofs.Shown.{shown}
use Rattle.translate.specs.Here.{witnesses_in}
use Rattle.translate.proofs.leaf.witness.Goals as goal

pub returns-in-Some : goal.returns-in-Some
returns-in-Some c =
    shown _ _ _ _ c.path-in-Some.ensures
    (ap (λ o. with_term (witness_or o (make.witness (state_of c.args.builder.now).here (kinds.form c.args.kind.now) (witness_number (witnesses_in c.args.place) c.args.name.now))) (state_of c.args.builder.now))
    (sym (witness_is c.args.place c.args.layout.now c.requires.stands.0 c.requires.stands.1 c.args.name.now (state_of c.args.builder.now).here c.requires.ready.here c.in_ok-path.field-0 (rw c.as_str.ensures at c.in_ok-path.ensures.path)
    ∙ ap (option_map (λ steps. path_term (state_of c.args.builder.now).here (map step_of steps))) c.in-Some.is)))

pub returns-in-None : goal.returns-in-None
returns-in-None c =
    shown _ _ _ _ c.witness.ensures
    (ap (λ n. with_term (make.witness (state_of c.args.builder.now).here (kinds.form c.args.kind.now) n) (state_of c.args.builder.now)) (c.number_of-number.ensures ∙ ap (λ w. witness_number w c.as_str-in-None.result.now) c.witnesses.ensures ∙ ap (witness_number (witnesses_in c.args.place)) c.as_str-in-None.ensures)
    ∙ ap (λ o. with_term (witness_or o (make.witness (state_of c.args.builder.now).here (kinds.form c.args.kind.now) (witness_number (witnesses_in c.args.place) c.args.name.now))) (state_of c.args.builder.now))
    (sym (witness_is c.args.place c.args.layout.now c.requires.stands.0 c.requires.stands.1 c.args.name.now (state_of c.args.builder.now).here c.requires.ready.here c.in_ok-path.field-0 (rw c.as_str.ensures at c.in_ok-path.ensures.path)
    ∙ ap (option_map (λ steps. path_term (state_of c.args.builder.now).here (map step_of steps))) c.in-None.is)))
