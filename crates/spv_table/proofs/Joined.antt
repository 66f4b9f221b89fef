-- Names that stand one after another in one text.
use Rattle.std.proofs.Common.{◌≡◌, ℕ, zero, suc, ◌<◌, ◌≤◌, ◌-◌, List, [], ◌∷◌, ◌++◌, length, get_or, take, drop, slice_get, Some, refl, sym, ap, ap₂, subst, ◌∙◌, length-append, Bool, true, false, nat_eq, arith}
use Rattle.std.specs.List.{slice_range}
use Rattle.std.specs.Str.{IsUtf8, IsCharBoundary}
use Rattle.std.proofs.lemmas.List.{take-append-le, drop-append-le, length-drop, get_or_append_left, get_or_default}
use Rattle.std.proofs.Math.Seq.{drop-length, take-length}
use Rattle.std.proofs.lemmas.Bool.Decides.{nat_tests}
use Rattle.std.proofs.lemmas.Str.{IsCharBoundary-start, IsCharBoundary-end, IsCharBoundary-at_seam}
use Rattle.spv_table.specs.inner.Joined.{names_in, begin_of, end_of, AreEnds, IsJoined}

pub names_count : (b : ℕ) (t es : List ℕ) → length (names_in b t es) ≡ length es
names_count b t [] = refl
names_count b t (e ∷ es) = ap suc (names_count e t es)

begins : (b e : ℕ) (es : List ℕ) (i : ℕ) → begin_of b (e ∷ es) (suc i) ≡ begin_of e es i
begins b e es zero = refl
begins b e es (suc i) = refl

-- the name at a place
pub name_in : (b : ℕ) (t es : List ℕ) (i : ℕ) → i < length es → slice_get (names_in b t es) i ≡ Some (slice_range t (begin_of b es i) (get_or es i 0))
name_in b t [] i h = absurd (omega arith)
name_in b t (e ∷ es) zero h = refl
name_in b t (e ∷ es) (suc i) h = name_in e t es i (omega arith) ∙ ap (λ k. Some (slice_range t k (get_or es i 0))) (sym (begins b e es i))

-- it begins and ends between two characters
pub record IsCut (t : List ℕ) (b e : ℕ) : Type 0 where
  pub order : b ≤ e
  pub begin : IsCharBoundary t b
  pub end : IsCharBoundary t e

pub cut_at : (b : ℕ) (t es : List ℕ) (i : ℕ) → i < length es → IsCharBoundary t b → AreEnds b t es → IsCut t (begin_of b es i) (get_or es i 0)
cut_at b t [] i h s a = absurd (omega arith)
cut_at b t (e ∷ es) zero h s a = record { order = a.0; begin = s; end = a.1 }
cut_at b t (e ∷ es) (suc i) h s a = subst (λ k. IsCut t k (get_or es i 0)) (sym (begins b e es i)) (cut_at e t es i (omega arith) a.1 a.2)

-- ---- one name more

-- a place in a text is one in a longer text, too
still_cut : (t n : List ℕ) (e : ℕ) → IsUtf8 n → IsCharBoundary t e → IsCharBoundary (t ++ n) e
still_cut t n e u c = by (nat_eq e (length t)) refl where
  by : (b : Bool) → nat_eq e (length t) ≡ b → IsCharBoundary (t ++ n) e
  by true k = let same : e ≡ length t = grind (arith, nat_tests) in subst (IsCharBoundary (t ++ n)) (sym same) (IsCharBoundary-at_seam (t ++ n) t n refl u)
  by false k =
      let more = length-append t n in
      let few : e < length t = grind (arith, nat_tests, c.0) in
      let same = get_or_append_left t n 0 e few in
      (omega (arith, more, few), λ i h. rw same (c.1 few (rw same at h)))

still_range : (t n : List ℕ) (b e : ℕ) → b ≤ e → e ≤ length t → slice_range (t ++ n) b e ≡ slice_range t b e
still_range t n b e o l =
    let d = length-drop b t in
    ap (take (e - b)) (drop-append-le b t n (omega arith)) ∙ take-append-le (e - b) (drop b t) n (omega arith)

pub more_names : (b : ℕ) (t n es : List ℕ) → AreEnds b t es → end_of b es ≡ length t → names_in b (t ++ n) (es ++ length (t ++ n) ∷ []) ≡ names_in b t es ++ n ∷ []
more_names b t n [] a w =
    let rest : drop b (t ++ n) ≡ n = rw w (rw (drop-append-le (length t) t n (omega arith), drop-length t)) in
    let all : length (t ++ n) - b ≡ length n = omega (arith, w, length-append t n) in
    let end : take (length n) n ≡ n = take-length n in
    ap (λ x. x ∷ []) (ap₂ take all rest ∙ end)
more_names b t n (e ∷ es) a w = ap₂ (λ (x : List ℕ) (xs : List (List ℕ)). x ∷ xs) (still_range t n b e a.0 a.1.0) (more_names e t n es a.2 w)

pub more_ends : (b : ℕ) (t n es : List ℕ) → IsUtf8 n → AreEnds b t es → end_of b es ≡ length t → AreEnds b (t ++ n) (es ++ length (t ++ n) ∷ [])
more_ends b t n [] u a w = (omega (arith, w, length-append t n), IsCharBoundary-end (t ++ n), tt)
more_ends b t n (e ∷ es) u a w = (a.0, still_cut t n e u a.1, more_ends e t n es u a.2 w)

pub last_end : (b : ℕ) (es : List ℕ) (l : ℕ) → end_of b (es ++ l ∷ []) ≡ l
last_end b [] l = refl
last_end b (e ∷ es) l = last_end e es l

-- the names of a text with one more at its end
pub joined_more : (ns now : List (List ℕ)) (t text n es ends : List ℕ) (l : ℕ) → now ≡ ns ++ n ∷ [] → text ≡ t ++ n → l ≡ length text → ends ≡ es ++ l ∷ [] → IsUtf8 n → IsJoined ns t es → IsJoined now text ends
joined_more ns now t text n es ends l names texts long more u j =
    let all : ends ≡ es ++ length (t ++ n) ∷ [] = more ∙ ap (λ k. es ++ k ∷ []) (long ∙ ap length texts) in
    let joined : IsJoined (ns ++ n ∷ []) (t ++ n) (es ++ length (t ++ n) ∷ []) = record {
      same = more_names 0 t n es j.ends j.whole ∙ ap (λ front. front ++ n ∷ []) j.same;
      ends = more_ends 0 t n es u j.ends j.whole;
      whole = last_end 0 es (length (t ++ n));
    } in
    rw (names, texts, all) joined

-- ---- the name at a place, with where it begins and ends

-- what a list of names tells of the one at a place
pub record IsNameAt (t es : List ℕ) (i b e : ℕ) : Type 0 where
  pub cut : IsCut t b e
  pub name : slice_get (names_in 0 t es) i ≡ Some (slice_range t b e)

pub name_at : (t es : List ℕ) (i b e : ℕ) → i < length es → IsUtf8 t → AreEnds 0 t es → b ≡ begin_of 0 es i → e ≡ get_or es i e → IsNameAt t es i b e
name_at t es i b e h u a begins ends =
    let last : e ≡ get_or es i 0 = ends ∙ get_or_default es i e 0 h in
    let R : ℕ → ℕ → Type 0 = λ x y. IsNameAt t es i x y in
    let at : IsNameAt t es i (begin_of 0 es i) (get_or es i 0) = record { cut = cut_at 0 t es i h (IsCharBoundary-start t u) a; name = name_in 0 t es i h } in
    subst (λ x. IsNameAt t es i x e) (sym begins) (subst (IsNameAt t es i (begin_of 0 es i)) (sym last) at)

-- a name but the first begins where the one before ends
pub begins_after : (es : List ℕ) (i b : ℕ) → 0 < i → i - 1 < length es → b ≡ get_or es (i - 1) b → b ≡ begin_of 0 es i
begins_after es i b some h is = is ∙ get_or_default es (i - 1) b 0 h ∙ ap (begin_of 0 es) {x = suc (i - 1)} {y = i} (omega arith)
