-- At most one table of a run, and at most one code that is broken.
use Rattle.std.proofs.Common.{◌≡◌, ℕ, List, Option, Some, None, refl, sym, ap, subst, ◌∙◌, inl, inr, ◌⊎◌}
use Rattle.std.proofs.lemmas.Option.{none-some, same_Some}
use Rattle.std.specs.Prelude.{IsUtf8}
use Rattle.serde_json.specs.Data.{Data}
use Rattle.serde_json.specs.Read.{read}
use Rattle.spv_table.specs.Table.{Table}
use Rattle.spv_grammar.specs.declared.error.GrammarError.{GrammarError}
use Rattle.spv_grammar.specs.declared.error.GrammarError.TheVariants.{J1, J2, J3, J4, J5, J6, J7, J8}
use Rattle.spv_grammar.specs.Answer.{Gives, tree_breaks, text_breaks}
use Rattle.spv_builtin.specs.Source.{IsGivenBy, IsTableOf, breaks}

-- the text has no tree, and the code is J1
abbrev pub NoTree : List ℕ → GrammarError → Type 0
NoTree text e = (e ≡ J1) × (IsUtf8 text → read text ≡ None)

-- the text has a tree, which tells the code
abbrev pub TreeTells : List ℕ → GrammarError → Type 0
TreeTells text e = (d : Data) × IsUtf8 text × (read text ≡ Some d) × (tree_breaks d ≡ Some e)

told : (text : List ℕ) (e : GrammarError) → text_breaks text e → NoTree text e ⊎ TreeTells text e
told text J1 t = inl (refl, t)
told text J2 t = inr t
told text J3 t = inr t
told text J4 t = inr t
told text J5 t = inr t
told text J6 t = inr t
told text J7 t = inr t
told text J8 t = inr t

no_tree : (text : List ℕ) (d : Data) → read text ≡ None → read text ≡ Some d → ⊥
no_tree text d n s = none-some d (sym n ∙ s)

same_code : (text : List ℕ) (d e : GrammarError) → NoTree text d ⊎ TreeTells text d
    → NoTree text e ⊎ TreeTells text e
    → d ≡ e
same_code text d e (inl a) (inl b) = a.0 ∙ sym b.0
same_code text d e (inl a) (inr b) = absurd (no_tree text b.0 (a.1 b.1) b.2)
same_code text d e (inr a) (inl b) = absurd (no_tree text a.0 (b.1 a.1) a.2)
same_code text d e (inr a) (inr b) =
    let t : a.0 ≡ b.0 = same_Some _ _ (sym a.2 ∙ b.2) in
    same_Some _ _ (sym a.3 ∙ ap tree_breaks t ∙ b.3)

pub one_code : (text : Option (List ℕ)) (d e : GrammarError) → breaks text d → breaks text e → d ≡ e
one_code None d e s t = s.0 ∙ sym t.0
one_code (Some text) d e s t = same_code text d e (told text d s) (told text e t)

-- a text that gives a table, where another tree of the same text
gives_too : (text : List ℕ) (G : Table) (d : Data) (g : IsGivenBy text G) → read text ≡ Some d → Gives d G
gives_too text G d g is =
    let P : Data → Type 0 = λ d. Gives d G in subst P (same_Some _ _ (sym g.is_tree ∙ is)) g.gives

module _ (given : (d : Data) (G H : Table) → Gives d G → Gives d H → G ≡ H) where
  pub one_table : (text : Option (List ℕ)) (G H : Table) → IsTableOf text G → IsTableOf text H → G ≡ H
  one_table None G H g h = g ∙ sym h
  one_table (Some text) G H g h = given h.tree G H (gives_too text G h.tree g h.is_tree) h.gives

module _ (unbroken : (d : Data) (G : Table) (e : GrammarError) → Gives d G → tree_breaks d ≡ Some e → ⊥) where
  not_told : (text : List ℕ) (G : Table) (e : GrammarError) → IsGivenBy text G → NoTree text e ⊎ TreeTells text e → ⊥
  not_told text G e g (inl a) = no_tree text g.tree (a.1 g.utf8) g.is_tree
  not_told text G e g (inr b) = unbroken b.0 G e (gives_too text G b.0 g b.2) b.3

  pub never : (text : Option (List ℕ)) (G : Table) (e : GrammarError) → IsTableOf text G → breaks text e → ⊥
  never None G e g b = b.1 G g
  never (Some text) G e g b = not_told text G e g (told text e b)
