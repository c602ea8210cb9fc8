-- Answers to the goals of `last`: so many from the top.
use Rattle.std.proofs.Common.{◌≡◌, ◌≤◌, ◌-◌, ◌∙◌, sym, ap, length, take, drop, reverse, arith}
use Rattle.std.proofs.lemmas.List.{take_rest, length-reverse}
use Rattle.term_builder.proofs.Lasts.{last_of}
use Rattle.term_builder.proofs.stack.Stack.last.Goals as goal

pub returns : goal.returns
returns c =
    let long : c.len.result ≡ length c.deref.result.now = omega (arith, c.len.ensures, c.deref.ensures.len, ap length c.deref.ensures.value) in
    let now : reverse c.deref.result.now ≡ c.args.self.now = ap reverse c.deref.ensures.value ∙ c.self.view_is in
    let enough : c.args.count ≤ length c.deref.result.now = omega (arith, c.requires, ap length (sym now), length-reverse c.deref.result.now) in
    take_rest c.deref.result.now (c.len.result - c.args.count)
    ∙ ap (λ m. drop (m - c.args.count) c.deref.result.now) long
    ∙ last_of c.args.count c.deref.result.now enough
    ∙ ap (λ l. reverse (take c.args.count l)) now
