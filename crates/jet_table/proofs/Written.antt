-- Lists written one after another.
use Rattle.std.proofs.Common.{◌≡◌, List, ◌++◌, append_assoc, ap, ◌∙◌}
use Rattle.jets.specs.Jet.{Row}

after : (p q r a rest : List Row) → q ≡ p ++ a → r ≡ q ++ rest → r ≡ p ++ (a ++ rest)
after p q r a rest e f = f ∙ ap (λ x. x ++ rest) e ∙ append_assoc p a rest

pub seven_in_turn : (p p1 p2 p3 p4 p5 p6 p7 a b c d e f g : List Row)
    → p1 ≡ p ++ a → p2 ≡ p1 ++ b → p3 ≡ p2 ++ c → p4 ≡ p3 ++ d → p5 ≡ p4 ++ e → p6 ≡ p5 ++ f → p7 ≡ p6 ++ g
    → p7 ≡ p ++ (a ++ (b ++ (c ++ (d ++ (e ++ (f ++ g))))))
seven_in_turn p p1 p2 p3 p4 p5 p6 p7 a b c d e f g h1 h2 h3 h4 h5 h6 h7 =
    let r6 = after p5 p6 p7 f g h6 h7 in
    let r5 = after p4 p5 p7 e (f ++ g) h5 r6 in
    let r4 = after p3 p4 p7 d (e ++ (f ++ g)) h4 r5 in
    let r3 = after p2 p3 p7 c (d ++ (e ++ (f ++ g))) h3 r4 in
    let r2 = after p1 p2 p7 b (c ++ (d ++ (e ++ (f ++ g)))) h2 r3 in
    after p p1 p7 a (b ++ (c ++ (d ++ (e ++ (f ++ g))))) h1 r2
