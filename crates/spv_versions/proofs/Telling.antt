-- What is told of a module, instruction by instruction.
use Rattle.std.proofs.Common.{◌≡◌, ◌<◌, ◌∙◌, ◌++◌, ◌&&◌, ◌↔◌, ℕ, List, [], ◌∷◌, Bool, true, false, Some, None, IsTrue}
use Rattle.std.proofs.Common.{not, map, sym, ap, subst, inl, inr, codes}
use Rattle.std.specs.Prelude.{slice_get, slice_index_or}
use Rattle.std.specs.Str.{bytes_eq}
use Rattle.std.proofs.lemmas.Bool.{and_from, and_parts, both_ways, false_from_ne_true, not_from_false, not-true}
use Rattle.std.proofs.lemmas.Option.{none-some, same_Some}
use Rattle.std.proofs.lemmas.Slice.Eq.{bytes_eq-Decides}
use Rattle.spv_module.specs.Operand.{PlainInst}
use Rattle.spv_versions.specs.Named.{IsDeclared}
use Rattle.spv_versions.specs.Table.{IsBefore, Line, lines}
use Rattle.spv_versions.specs.inner.Lines.{Read, names_have, plain_line}
use Rattle.spv_versions.specs.inner.Told.{AreTold, IsMissingLine, extension_in}
use Rattle.spv_versions.proofs.Listed.{unread}
use Rattle.spv_versions.proofs.Declaring.{contains_have, declared_cases, declared_new, declared_old, have_contains, named}

-- a line as it is read
line_read : (ls : List Read) → map plain_line ls ≡ lines → (k : ℕ) (l : Line) → slice_get lines k ≡ Some l
    → (x : Read) × (slice_get ls k ≡ Some x) × (plain_line x ≡ l)
line_read ls same k l e = unread ls k l (subst (λ (qs : List Line). slice_get qs k ≡ Some l) (sym same) e)

none_declared : (x : List ℕ) → ¬ (IsDeclared [] x)
none_declared x d = none-some d.inst d.there

-- of no instruction
pub told_first : (ls : List Read) (flags : List Bool) (minor : ℕ) (b : Bool) → map plain_line ls ≡ lines
    → ((k : ℕ) (l : Read) → slice_get ls k ≡ Some l → IsTrue (slice_index_or flags k false) ↔ IsBefore minor l.3)
    → IsTrue b ↔ (minor < 6) → AreTold minor [] flags b
told_first ls flags minor b same says m = record {
  each = λ k l e.
      let u = line_read ls same k l e in
      let s = says k u.0 u.1 in (
        λ t. (subst (λ (q : Line). IsBefore minor q.3) u.2 (s.0 t), λ name has d. none_declared name.now d),
        λ h. s.1 (subst (λ (q : Line). IsBefore minor q.3) (sym u.2) h.0),
      );
  meaning = (λ t. (m.0 t, λ d. none_declared (codes "SPV_KHR_non_semantic_info") d), λ h. m.1 h.0);
}

-- one more that declares no extension
pub told_other : (minor : ℕ) (is : List PlainInst) (i : PlainInst) (flags : List Bool) (b : Bool)
    → None ≡ extension_in i → AreTold minor is flags b → AreTold minor (is ++ (i ∷ [])) flags b
told_other minor is i flags b none told =
    let same : (x : List ℕ) → IsDeclared (is ++ (i ∷ [])) x → IsDeclared is x =
    λ x d. elim (declared_cases is i x d) [ inl a ↦ a | inr e ↦ absurd (none-some x (none ∙ e)) ] in
    record {
      each = λ k l e.
          let t = told.each k l e in (
            λ f. let m = t.0 f in (m.0, λ name has d. m.1 name has (same name.now d)),
            λ m. t.1 (m.0, λ name has d. m.1 name has (declared_old is i name.now d)),
          );
      meaning = (
        λ f. let m = told.meaning.0 f in (m.0, λ d. m.1 (same (codes "SPV_KHR_non_semantic_info") d)),
        λ m. told.meaning.1 (m.0, λ d. m.1 (declared_old is i (codes "SPV_KHR_non_semantic_info") d)),
      );
    }

-- one more that declares one: of a line, and of sets of no meaning
line_more : (minor : ℕ) (is : List PlainInst) (i : PlainInst) (x : List ℕ) (r : Read) (old new : Bool)
    → extension_in i ≡ Some x → new ≡ (old && not (names_have r.4.now x)) → IsTrue old ↔ IsMissingLine minor is (plain_line r)
    → IsTrue new ↔ IsMissingLine minor (is ++ (i ∷ [])) (plain_line r)
line_more minor is i x r old new e says told = (
  λ t.
      let p = and_parts old (not (names_have r.4.now x)) (sym says ∙ t) in
      let m = told.0 p.0 in (
        m.0,
        λ name has d. elim (declared_cases is i name.now d) [
          | inl a ↦ m.1 name has a
          | inr f ↦
              let same : name.now ≡ x = same_Some name.now x (sym f ∙ e) in
              both_ways (names_have r.4.now x) (not-true (names_have r.4.now x) p.1)
              (subst (λ (y : List ℕ). names_have r.4.now y ≡ true) same (contains_have r.4.now name has))
        ],
      ),
  λ m. says ∙ and_from old (not (names_have r.4.now x))
      (told.1 (m.0, λ name has d. m.1 name has (declared_old is i name.now d)))
      (not_from_false (names_have r.4.now x) (false_from_ne_true (names_have r.4.now x)
      (λ h. m.1 (named x) (have_contains r.4.now x h) (declared_new is i x e)))),
)

meaning_more : (minor : ℕ) (is : List PlainInst) (i : PlainInst) (x s : List ℕ) (old new : Bool)
    → extension_in i ≡ Some x → new ≡ (old && not (bytes_eq x s))
    → IsTrue old ↔ ((minor < 6) × ¬ (IsDeclared is s))
    → IsTrue new ↔ ((minor < 6) × ¬ (IsDeclared (is ++ (i ∷ [])) s))
meaning_more minor is i x s old new e says told = (
  λ t.
      let p = and_parts old (not (bytes_eq x s)) (sym says ∙ t) in
      let m = told.0 p.0 in (
        m.0,
        λ d. elim (declared_cases is i s d) [
          | inl a ↦ m.1 a
          | inr f ↦ both_ways (bytes_eq x s) (not-true (bytes_eq x s) p.1)
              ((bytes_eq-Decides x s).1 (same_Some x s (sym e ∙ f)))
        ],
      ),
  λ m. says ∙ and_from old (not (bytes_eq x s)) (told.1 (m.0, λ d. m.1 (declared_old is i s d)))
      (not_from_false (bytes_eq x s) (false_from_ne_true (bytes_eq x s) (λ h. m.1 (declared_new is i s
      (e ∙ ap Some ((bytes_eq-Decides x s).0 h)))))),
)

pub told_more : (ls : List Read) (old new : List Bool) (b c : Bool) (x : List ℕ) → map plain_line ls ≡ lines
    → ((k : ℕ) (l : Read) → slice_get ls k ≡ Some l
    → slice_index_or new k false ≡ (slice_index_or old k false && not (names_have l.4.now x)))
    → c ≡ (b && not (bytes_eq x (codes "SPV_KHR_non_semantic_info")))
    → (minor : ℕ) (is : List PlainInst) (i : PlainInst) → extension_in i ≡ Some x → AreTold minor is old b
    → AreTold minor (is ++ (i ∷ [])) new c
told_more ls old new b c x same says m minor is i e told = record {
  each = λ k l f.
      let u = line_read ls same k l f in
      let t = subst (λ (q : Line). IsTrue (slice_index_or old k false) ↔ IsMissingLine minor is q) (sym u.2)
      (told.each k l f) in
      subst (λ (q : Line). IsTrue (slice_index_or new k false) ↔ IsMissingLine minor (is ++ (i ∷ [])) q) u.2
      (line_more minor is i x u.0 (slice_index_or old k false) (slice_index_or new k false) e (says k u.0 u.1) t);
  meaning = meaning_more minor is i x (codes "SPV_KHR_non_semantic_info") b c e m told.meaning;
}
