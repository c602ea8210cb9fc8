-- Answers to the goals of `pop` in `cursor`.
use Rattle.std.proofs.Common.{sym, ◌∙◌}
use Rattle.small_source.proofs.Lexing.{tokens_from-end, tokens_from-next}
use Rattle.small_source.proofs.cursor.Cursor.pop.Goals as goal

pub returns-in_default : goal.returns-in_default
returns-in_default c =
    sym c.self.view_is ∙ tokens_from-end _ _ _ _ c.blanks.ensures.value c.split_at.ensures.back c.in_default.ensures.cases

pub returns : goal.returns
returns c =
    rw (c.split_at-2.ensures.front, c.split_at-2.ensures.back) (sym c.self.view_is ∙ tokens_from-next _ _ _ _ _ _ _ c.blanks.ensures.value c.split_at.ensures.back c.in-Some.ensures.cases.0 c.further_bytes-length.ensures.value)
