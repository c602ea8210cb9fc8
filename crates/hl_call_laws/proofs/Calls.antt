-- Calls of a typed program: the term of the function that is called gives what the call means.
use Rattle.std.proofs.Common.{◌≡◌, Option, sym, ap, ◌∙◌, subst}
use Rattle.hl_data.specs.declared.value.HlValue.{HlValue}
use Rattle.hl_syntax.specs.declared.kinds.HlType.{HlType}
use Rattle.simplicity.specs.Canon.{erased}
use Rattle.simplicity.specs.Terms as bare
use Rattle.simplicity.specs.Types.{Value}
use Rattle.hl_meaning.specs.Answer.{Answer, gives, fails, stuck, shaped}
use Rattle.hl_meaning.specs.Mean.{meaning, functions_of, parts_of}
use Rattle.hl_typing.specs.Programs as programs
use Rattle.hl_progress.proofs.Programs.{typed_answers}
use Rattle.hl_progress.specs.Held.{HasAnswer}
use Rattle.hl_terms.specs.Programs.{program_terms}
use Rattle.hl_call_laws.specs.Laws.{Agrees, CallsAgree, CompiledCallsAgree}
use Rattle.hl_term_laws.specs.Renders.{Computes, AreGiven}
use Rattle.hl_call_laws.proofs.Arguments.{arguments, argument_form}
use Rattle.hl_term_laws.proofs.Called.{found_rendered}
use Rattle.hl_expansions.proofs.Jets.{jets_rendered}
use Rattle.hl_expansions.proofs.Loops.{loops_rendered}
use Rattle.hl_expansions.proofs.Recoded.{recodes}
use Rattle.hl_expansions.specs.Expansions.{expansions}
use Rattle.hl_term_laws.proofs.Programs.{functions_render}

-- what has an answer and is computed agrees
agreed : (k : HlType) (a : Answer HlValue) (d : Option Value) → HasAnswer k a → Computes k a d → Agrees k a d
agreed k (gives v) d has h = h
agreed k fails d has h = h
agreed k stuck d has h = absurd has

pub calls_agree : CallsAgree
unfolding meaning
calls_agree x edition program jets loops typed name argument given call core w encodes told =
    let fs = program.functions in
    let gs = functions_of given fs in
    let ts = program_terms x edition program.witnesses fs in
    let all = functions_render x edition program.witnesses given w fs jets loops recodes typed.functions in
    let f = call.function in
    let r = found_rendered program.witnesses given w fs gs ts name f all call.there in
    let parts = arguments f.params argument core encodes in
    let means : meaning fs name given argument ≡ r.run.run parts.values =
    ap (λ o. shaped o (λ g. shaped (parts_of g.params argument) g.run)) r.there ∙ ap (λ ps. shaped (parts_of ps argument) r.run.run) r.renders.meant_params ∙ ap (λ o. shaped o r.run.run) parts.parts in
    let given_here : AreGiven (programs.witnesses_of f.name program.witnesses) given w = subst (λ n. AreGiven (programs.witnesses_of n program.witnesses) given w) r.is told in
    let computes : Computes f.result (r.run.run parts.values) (bare.meaning (erased r.made.term) w core) =
    subst (λ c. Computes f.result (r.run.run parts.values) (bare.meaning (erased r.made.term) w c)) parts.joined (r.renders.runs given_here parts.values parts.cores parts.encode) in
    record {
      term = r.made;
      there = r.stands;
      from = r.renders.from ∙ sym (argument_form f.params);
      to = r.renders.to;
      typed = r.renders.typed;
      agrees = agreed f.result (meaning fs name given argument) (bare.meaning (erased r.made.term) w core) (typed_answers program typed name argument given call)
          (subst (λ a. Computes f.result a (bare.meaning (erased r.made.term) w core)) (sym means) computes);
    }

pub compiled_calls_agree : CompiledCallsAgree
compiled_calls_agree edition program typed name argument given call core w encodes told =
    calls_agree expansions edition program jets_rendered loops_rendered typed name argument given call core w encodes told
