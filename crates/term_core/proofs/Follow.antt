-- When a node may be added: by its children's terms and the types of its arrow.
use Rattle.std.proofs.Common.{◌≡◌, ℕ, ◌<◌, List, length, ap, ◌∙◌, arith}
use Rattle.simplicity.specs.Types.{Kind, One, Sum, Product, word_kind}
use Rattle.simplicity.specs.Typing.{arrow}
use Rattle.simplicity.specs.Canon.{Declared}
use Rattle.simplicity.specs.Widths.{level_of}
use Rattle.simplicity.specs.Arrows.{declared_arrow, MeetsRow}
use Rattle.jets.specs.Unsigned.{Unsigned}
use Rattle.type_table.specs.Kinds.{Means}
use Rattle.term_core.specs.declared.table_node.Node.TheVariants as code
use Rattle.term_core.specs.declared.table_node.TermRow.{TermRow}
use Rattle.term_core.specs.Terms.{term_of, terms, MayFollow, MeansTerm}
use Rattle.simplicity.specs.Arrows as meets
use Rattle.term_core.proofs.Growth.{length-terms}

module _ (kinds : List Kind) (rows : List TermRow) (source target : ℕ) where
  child_within : (i : ℕ) (t : Declared) → MeansTerm kinds rows i t → i < length (terms kinds rows)
  child_within i t m = omega (arith, m.within, length-terms kinds rows)

  -- the arrow of a child is that of the term that it means
  child_arrow : (i : ℕ) (t : Declared) (a b : Kind) → MeansTerm kinds rows i t → declared_arrow t ≡ arrow a b → declared_arrow (term_of (terms kinds rows) i) ≡ arrow a b
  child_arrow i t a b m e = ap declared_arrow m.is ∙ e

  pub iden_follows : (a : Kind) → Means kinds source a → Means kinds target a → MayFollow kinds (terms kinds rows) (record { node = code.Iden; source = source; target = target })
  iden_follows a s t = record {
    children = tt;
    source = s.within;
    target = t.within;
    meets = rw (s.is, t.is) (meets.Iden a);
  }

  pub unit_follows : (a : Kind) → Means kinds source a → Means kinds target One → MayFollow kinds (terms kinds rows) (record { node = code.Unit; source = source; target = target })
  unit_follows a s t = record {
    children = tt;
    source = s.within;
    target = t.within;
    meets = rw (s.is, t.is) (meets.UnitTerm a);
  }

  pub fail_follows : (a b : Kind) → Means kinds source a → Means kinds target b → MayFollow kinds (terms kinds rows) (record { node = code.Fail; source = source; target = target })
  fail_follows a b s t = record {
    children = tt;
    source = s.within;
    target = t.within;
    meets = rw (s.is, t.is) (meets.Fail _ a b);
  }

  pub witness_follows : (n : ℕ) (a b : Kind) → Means kinds source a → Means kinds target b → MayFollow kinds (terms kinds rows) (record { node = code.Witness n; source = source; target = target })
  witness_follows n a b s t = record {
    children = tt;
    source = s.within;
    target = t.within;
    meets = rw (s.is, t.is) (meets.Witness n a b);
  }

  pub word_follows : (w : Unsigned) → Means kinds source One → Means kinds target (word_kind (level_of w.width)) → MayFollow kinds (terms kinds rows) (record { node = code.Word w; source = source; target = target })
  word_follows w s t = record {
    children = tt;
    source = s.within;
    target = t.within;
    meets = rw (s.is, t.is) (meets.Word _ _);
  }

  pub injl_follows : (i : ℕ) (t : Declared) (a b c : Kind) → MeansTerm kinds rows i t → declared_arrow t ≡ arrow a b → Means kinds source a → Means kinds target (Sum b c) →
      MayFollow kinds (terms kinds rows) (record { node = code.Injl i; source = source; target = target })
  injl_follows i t a b c m e s g = record {
    children = (child_within i t m, tt);
    source = s.within;
    target = g.within;
    meets = rw (s.is, g.is) (meets.Injl _ a b c (child_arrow i t a b m e));
  }

  pub injr_follows : (i : ℕ) (t : Declared) (a b c : Kind) → MeansTerm kinds rows i t → declared_arrow t ≡ arrow a c → Means kinds source a → Means kinds target (Sum b c) →
      MayFollow kinds (terms kinds rows) (record { node = code.Injr i; source = source; target = target })
  injr_follows i t a b c m e s g = record {
    children = (child_within i t m, tt);
    source = s.within;
    target = g.within;
    meets = rw (s.is, g.is) (meets.Injr _ a b c (child_arrow i t a c m e));
  }

  pub take_follows : (i : ℕ) (t : Declared) (a b c : Kind) → MeansTerm kinds rows i t → declared_arrow t ≡ arrow a c → Means kinds source (Product a b) → Means kinds target c →
      MayFollow kinds (terms kinds rows) (record { node = code.Take i; source = source; target = target })
  take_follows i t a b c m e s g = record {
    children = (child_within i t m, tt);
    source = s.within;
    target = g.within;
    meets = rw (s.is, g.is) (meets.Take _ a b c (child_arrow i t a c m e));
  }

  pub drop_follows : (i : ℕ) (t : Declared) (a b c : Kind) → MeansTerm kinds rows i t → declared_arrow t ≡ arrow b c → Means kinds source (Product a b) → Means kinds target c →
      MayFollow kinds (terms kinds rows) (record { node = code.Drop i; source = source; target = target })
  drop_follows i t a b c m e s g = record {
    children = (child_within i t m, tt);
    source = s.within;
    target = g.within;
    meets = rw (s.is, g.is) (meets.Drop _ a b c (child_arrow i t b c m e));
  }

  pub assertl_follows : (i : ℕ) (t : Declared) (h : List ℕ) (a b c d : Kind) → MeansTerm kinds rows i t → declared_arrow t ≡ arrow (Product a c) d → Means kinds source (Product (Sum a b) c) → Means kinds target d →
      MayFollow kinds (terms kinds rows) (record { node = code.AssertL i h; source = source; target = target })
  assertl_follows i t h a b c d m e s g = record {
    children = (child_within i t m, tt);
    source = s.within;
    target = g.within;
    meets = rw (s.is, g.is) (meets.AssertL _ h a b c d (child_arrow i t (Product a c) d m e));
  }

  pub assertr_follows : (i : ℕ) (t : Declared) (h : List ℕ) (a b c d : Kind) → MeansTerm kinds rows i t → declared_arrow t ≡ arrow (Product b c) d → Means kinds source (Product (Sum a b) c) → Means kinds target d →
      MayFollow kinds (terms kinds rows) (record { node = code.AssertR h i; source = source; target = target })
  assertr_follows i t h a b c d m e s g = record {
    children = (child_within i t m, tt);
    source = s.within;
    target = g.within;
    meets = rw (s.is, g.is) (meets.AssertR h _ a b c d (child_arrow i t (Product b c) d m e));
  }

  pub comp_follows : (i j : ℕ) (t u : Declared) (a b c : Kind) → MeansTerm kinds rows i t → MeansTerm kinds rows j u → declared_arrow t ≡ arrow a b → declared_arrow u ≡ arrow b c →
      Means kinds source a → Means kinds target c → MayFollow kinds (terms kinds rows) (record { node = code.Comp i j; source = source; target = target })
  comp_follows i j t u a b c m n e f s g = record {
    children = (child_within i t m, (child_within j u n, tt));
    source = s.within;
    target = g.within;
    meets = rw (s.is, g.is) (meets.Comp _ _ a b c (child_arrow i t a b m e) (child_arrow j u b c n f));
  }

  pub case_follows : (i j : ℕ) (t u : Declared) (a b c d : Kind) → MeansTerm kinds rows i t → MeansTerm kinds rows j u → declared_arrow t ≡ arrow (Product a c) d → declared_arrow u ≡ arrow (Product b c) d →
      Means kinds source (Product (Sum a b) c) → Means kinds target d → MayFollow kinds (terms kinds rows) (record { node = code.Case i j; source = source; target = target })
  case_follows i j t u a b c d m n e f s g = record {
    children = (child_within i t m, (child_within j u n, tt));
    source = s.within;
    target = g.within;
    meets = rw (s.is, g.is) (meets.Case _ _ a b c d (child_arrow i t (Product a c) d m e) (child_arrow j u (Product b c) d n f));
  }

  pub pair_follows : (i j : ℕ) (t u : Declared) (a b c : Kind) → MeansTerm kinds rows i t → MeansTerm kinds rows j u → declared_arrow t ≡ arrow a b → declared_arrow u ≡ arrow a c →
      Means kinds source a → Means kinds target (Product b c) → MayFollow kinds (terms kinds rows) (record { node = code.Pair i j; source = source; target = target })
  pair_follows i j t u a b c m n e f s g = record {
    children = (child_within i t m, (child_within j u n, tt));
    source = s.within;
    target = g.within;
    meets = rw (s.is, g.is) (meets.Pair _ _ a b c (child_arrow i t a b m e) (child_arrow j u a c n f));
  }
