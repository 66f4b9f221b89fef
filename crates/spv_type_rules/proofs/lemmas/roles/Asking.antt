-- What is asked of an instruction's ids by its opcode is what its row of the table of shapes asks.
use Rattle.std.proofs.Common.{◌≡◌, ◌∙◌, ◌++◌, ◌&&◌, ⊎_elim, ℕ, zero, suc, List, [], ◌∷◌, Option, Some, None, Bool, true}
use Rattle.std.proofs.Common.{false, not, if◌then◌else◌, refl, sym, subst, MatchBool}
use Rattle.std.specs.Prelude.{slice_get}
use Rattle.spv_table.specs.Table.{Table}
use Rattle.spv_table.specs.Lookups.{number_named, is_number}
use Rattle.spv_module.specs.Operand.{Plain, PlainInst}
use Rattle.spv_module.specs.Operand as operand
use Rattle.spv_layout.specs.declared.form.Role.{Role}
use Rattle.spv_layout.specs.declared.form.Role.TheVariants as role
use Rattle.spv_layout.specs.declared.form.Form.{Form}
use Rattle.spv_layout.specs.declared.form.Form.TheVariants as form
use Rattle.spv_layout.specs.Row.{PlainRow, RowEnding, closed, maybe, file_and_text, repeated, others, maybe_others}
use Rattle.spv_layout.specs.Row.{maybe_repeated, has_masks, name_of, row_in}
use Rattle.spv_layout.specs.Rows.{rows}
use Rattle.spv_layout.specs.Shape.{is_of, AreOf, Ends, HasForms, FitsShape, role_of, id_of}
use Rattle.spv_type_forms.proofs.Opcodes.{both, and_yes, all_pass, one_passes}
use Rattle.spv_type_rules.specs.declared.roles.asked.Asked.{Asked}
use Rattle.spv_type_rules.specs.roles.inner.Asked.{asks_values, asked_of, IsPlayed, due_after, next_after, ArePlayed}
use Rattle.spv_type_rules.specs.roles.inner.Asked.{IsOneMiscast}
use Rattle.spv_type_rules.specs.roles.Role.{Plays}
use Rattle.spv_type_rules.specs.roles.inner.Known.{AreInRoleBefore, HasMiscast}

-- Tests of forms against roles that are due.

-- nothing is asked of an id in the role
abbrev is_free : Role → Bool
is_free role.Label = true
is_free role.Any = true
is_free _ = false

-- what is due is what the first role asks
abbrev serves : Role → Role → Bool
serves role.OfType role.OfType = true
serves role.Value role.Value = true
serves role.Function role.Function = true
serves role.Text role.Text = true
serves role.Set role.Set = true
serves role.Global role.Global = true
serves role.Label d = is_free d
serves role.Any d = is_free d
serves _ d = false

-- nothing is asked of an id in either role, and they are one
abbrev are_any : Role → Role → Bool
are_any role.Any role.Any = true
are_any _ _ = false

-- d is due, and r of the ids after it. An argument leaves what is due, and an id in its place does not: there the two
-- are one.
abbrev fits : Form → Role → Role → Bool
fits (form.Id q) d r = serves q d
fits form.Unseen d r = are_any d r
fits form.Other d r = is_free d
fits _ d r = true

-- what is due after an operand of a form
abbrev due_by : Role → Role → Role → Form → Role
due_by d r l (form.Id q) = r
due_by d r l form.Unseen = r
due_by d r l (form.Kind k) = if has_masks k then l else d
due_by d r l _ = d

abbrev next_by : Role → Role → Form → Role
next_by r l (form.Kind k) = if has_masks k then l else r
next_by r l _ = r

abbrev is_other : Form → Bool
is_other form.Other = true
is_other _ = false

abbrev are_free : Role → Role → Role → Bool
are_free d r l = is_free d && (is_free r && is_free l)

-- An operand of a form, where a role is due.

free_played : (is : List PlainInst) (d : Role) (x : ℕ) → is_free d ≡ true → Plays is d x
free_played is role.OfType x h = cc
free_played is role.Value x h = cc
free_played is role.Function x h = cc
free_played is role.Text x h = cc
free_played is role.Set x h = cc
free_played is role.Global x h = cc
free_played is role.Label x h = tt
free_played is role.Any x h = tt

any_roles : (d r : Role) → are_any d r ≡ true → (d ≡ role.Any) × (r ≡ role.Any)
any_roles role.Any role.Any h = (refl, refl)
any_roles d r h = cc

any_played : (is : List PlainInst) (d r : Role) (x : ℕ) → are_any d r ≡ true → Plays is d x
any_played is d r x h = let e : d ≡ role.Any = (any_roles d r h).0 in rw e tt

same_any : (d r : Role) → are_any d r ≡ true → d ≡ r
same_any d r h = let two = any_roles d r h in two.0 ∙ sym two.1

served : (is : List PlainInst) (q d : Role) (x : ℕ) → serves q d ≡ true → Plays is d x → Plays is q x
served is role.Label d x h p = tt
served is role.Any d x h p = tt
served is role.OfType role.OfType x h p = p
served is role.Value role.Value x h p = p
served is role.Function role.Function x h p = p
served is role.Text role.Text x h p = p
served is role.Set role.Set x h p = p
served is role.Global role.Global x h p = p
served is q d x h p = cc

serving : (is : List PlainInst) (q d : Role) (x : ℕ) → serves q d ≡ true → Plays is q x → Plays is d x
serving is role.Label d x h p = free_played is d x h
serving is role.Any d x h p = free_played is d x h
serving is role.OfType role.OfType x h p = p
serving is role.Value role.Value x h p = p
serving is role.Function role.Function x h p = p
serving is role.Text role.Text x h p = p
serving is role.Set role.Set x h p = p
serving is role.Global role.Global x h p = p
serving is q d x h p = cc

-- a use of an operand that is what is asked of it
kept : (G : Table) (is : List PlainInst) (f : Form) (o : Plain) (d r q : Role) (x : ℕ) → is_of G f o ≡ true
    → fits f d r ≡ true → role_of f o ≡ Some q → id_of o ≡ Some x
    → IsPlayed is d o → Plays is q x
kept G is form.OfType (operand.OfType y) d r q x h k e i p =
    let a : role.OfType ≡ q = cc in let b : y ≡ x = cc in rw (← a, ← b) p
kept G is (form.Id c) (operand.Id y) d r q x h k e i p =
    let a : c ≡ q = cc in let b : y ≡ x = cc in rw (← a, ← b) (served is c d y k p)
kept G is form.Other (operand.Id y) d r q x h k e i p =
    let a : role.Any ≡ q = cc in rw (← a) tt
kept G is form.Unseen (operand.Argument y) d r q x h k e i p =
    let a : role.Value ≡ q = cc in let b : y ≡ x = cc in rw (← a, ← b) p
kept G is f (operand.Word y) d r q x h k e i p = cc
kept G is f (operand.Number y z w) d r q x h k e i p = cc
kept G is f (operand.Text t) d r q x h k e i p = cc
kept G is f (operand.Value y z) d r q x h k e i p = cc
kept G is f (operand.Mask y z) d r q x h k e i p = cc
kept G is f o d r q x h k e i p = cc

-- an operand that is not what is asked of it is a use that is not in its role
record IsUsedWrongly (is : List PlainInst) (f : Form) (o : Plain) : Type 0 where
  pub role : Role
  pub id : ℕ
  pub used : role_of f o ≡ Some role
  pub is_id : id_of o ≡ Some id
  pub never : ¬ (Plays is role id)

broken : (G : Table) (is : List PlainInst) (f : Form) (o : Plain) (d r : Role) → is_of G f o ≡ true → fits f d r ≡ true
    → (IsPlayed is d o → ⊥) → IsUsedWrongly is f o
broken G is form.OfType (operand.OfType y) d r h k n =
    record { role = role.OfType; id = y; used = refl; is_id = refl; never = n }
broken G is (form.Id c) (operand.Id y) d r h k n =
    record { role = c; id = y; used = refl; is_id = refl; never = λ p. n (serving is c d y k p) }
broken G is form.Unseen (operand.Id y) d r h k n = absurd (n (any_played is d r y k))
broken G is form.Unseen (operand.Argument y) d r h k n =
    record { role = role.Value; id = y; used = refl; is_id = refl; never = n }
broken G is form.Other (operand.Id y) d r h k n = absurd (n (free_played is d y k))
broken G is f (operand.Word y) d r h k n = absurd (n tt)
broken G is f (operand.Mention y) d r h k n = absurd (n tt)
broken G is f (operand.Number y z w) d r h k n = absurd (n tt)
broken G is f (operand.Text t) d r h k n = absurd (n tt)
broken G is f (operand.Value y z) d r h k n = absurd (n tt)
broken G is f (operand.Mask y z) d r h k n = absurd (n tt)
broken G is f (operand.Result y) d r h k n = absurd (n tt)
broken G is f o d r h k n = cc

-- what is due after an operand, by its form
not_true : (b : Bool) → not b ≡ true → b ≡ false
not_true true h = cc
not_true false h = refl

same_due : (G : Table) (f : Form) (o : Plain) (d r l : Role) → is_of G f o ≡ true → is_other f ≡ false
    → fits f d r ≡ true → due_after d r l o ≡ due_by d r l f
same_due G (form.Kind c) (operand.Value y z) d r l h k t =
    let e : has_masks c ≡ false = not_true (has_masks c)
    (both (not (has_masks c)) (is_number y (number_named G (name_of c))) h).0 in
    rw e refl
same_due G (form.Kind c) (operand.Mask y z) d r l h k t =
    let e : has_masks c ≡ true = (both (has_masks c) (is_number y (number_named G (name_of c))) h).0 in
    rw e refl
same_due G form.OfType (operand.OfType y) d r l h k t = refl
same_due G form.Result (operand.Result y) d r l h k t = refl
same_due G form.Word (operand.Word y) d r l h k t = refl
same_due G form.Number (operand.Number y z w) d r l h k t = refl
same_due G form.Text (operand.Text c) d r l h k t = refl
same_due G (form.Id c) (operand.Id y) d r l h k t = refl
same_due G form.Unseen (operand.Id y) d r l h k t = refl
same_due G form.Unseen (operand.Argument y) d r l h k t = same_any d r t
same_due G form.Unseen (operand.Mention y) d r l h k t = same_any d r t
same_due G f o d r l h k t = cc

same_next : (G : Table) (f : Form) (o : Plain) (r l : Role) → is_of G f o ≡ true → is_other f ≡ false
    → next_after r l o ≡ next_by r l f
same_next G (form.Kind c) (operand.Value y z) r l h k =
    let e : has_masks c ≡ false = not_true (has_masks c)
    (both (not (has_masks c)) (is_number y (number_named G (name_of c))) h).0 in
    rw e refl
same_next G (form.Kind c) (operand.Mask y z) r l h k =
    let e : has_masks c ≡ true = (both (has_masks c) (is_number y (number_named G (name_of c))) h).0 in
    rw e refl
same_next G form.OfType (operand.OfType y) r l h k = refl
same_next G form.Result (operand.Result y) r l h k = refl
same_next G form.Word (operand.Word y) r l h k = refl
same_next G form.Number (operand.Number y z w) r l h k = refl
same_next G form.Text (operand.Text t) r l h k = refl
same_next G (form.Id c) (operand.Id y) r l h k = refl
same_next G form.Unseen (operand.Id y) r l h k = refl
same_next G form.Unseen (operand.Argument y) r l h k = refl
same_next G form.Unseen (operand.Mention y) r l h k = refl
same_next G f o r l h k = cc

-- Operands of forms, where roles are due.

abbrev are_others : List Form → Bool
are_others [] = true
are_others (f ∷ fs) = is_other f && are_others fs

abbrev asks : Role → Role → Role → List Form → Bool
asks d r l [] = true
asks d r l (f ∷ fs) =
    if is_other f then are_free d r l && are_others fs else (fits f d r && asks (due_by d r l f) (next_by r l f) l fs)

its_other : (f : Form) → is_other f ≡ true → f ≡ form.Other
its_other form.Other h = refl
its_other f h = cc

-- of an operand of another form nothing is asked
other_free : (is : List PlainInst) (o : Plain) (q : Role) (x : ℕ) → role_of form.Other o ≡ Some q → Plays is q x
other_free is (operand.Id y) q x e = let a : role.Any ≡ q = cc in rw (← a) tt
other_free is o q x e = cc

others_free : (is : List PlainInst) (fs : List Form) (k : ℕ) (f : Form) (o : Plain) (q : Role) (x : ℕ)
    → are_others fs ≡ true → slice_get fs k ≡ Some f → role_of f o ≡ Some q → Plays is q x
others_free is [] k f o q x h a e = cc
others_free is (g ∷ gs) zero f o q x h a e =
    let same : g ≡ f = cc in
    let other : g ≡ form.Other = its_other g (both (is_other g) (are_others gs) h).0 in
    let used : role_of form.Other o ≡ Some q = subst (λ (p : Form). role_of p o ≡ Some q) (sym same ∙ other) e in
    other_free is o q x used
others_free is (g ∷ gs) (suc k) f o q x h a e = others_free is gs k f o q x (both (is_other g) (are_others gs) h).1 a e

free_after : (d r l : Role) (o : Plain) → are_free d r l ≡ true
    → are_free (due_after d r l o) (next_after r l o) l ≡ true
free_after d r l (operand.Id x) h = let a = both (is_free d) (is_free r && is_free l) h in
    let b = both (is_free r) (is_free l) a.1 in and_yes (is_free r) (is_free r && is_free l) b.0 a.1
free_after d r l (operand.Mask k x) h = let a = both (is_free d) (is_free r && is_free l) h in
    let b = both (is_free r) (is_free l) a.1 in
    and_yes (is_free l) (is_free l && is_free l) b.1 (and_yes (is_free l) (is_free l) b.1 b.1)
free_after d r l (operand.OfType x) h = h
free_after d r l (operand.Result x) h = h
free_after d r l (operand.Word x) h = h
free_after d r l (operand.Argument x) h = h
free_after d r l (operand.Mention x) h = h
free_after d r l (operand.Number x y z) h = h
free_after d r l (operand.Text t) h = h
free_after d r l (operand.Value k x) h = h

other_played : (G : Table) (is : List PlainInst) (o : Plain) (d : Role) → is_free d ≡ true → is_of G form.Other o ≡ true
    → IsPlayed is d o
other_played G is (operand.OfType x) d h m = cc
other_played G is (operand.Id x) d h m = free_played is d x h
other_played G is (operand.Result x) d h m = tt
other_played G is (operand.Word x) d h m = tt
other_played G is (operand.Argument x) d h m = cc
other_played G is (operand.Mention x) d h m = tt
other_played G is (operand.Number x y z) d h m = tt
other_played G is (operand.Text t) d h m = tt
other_played G is (operand.Value k x) d h m = tt
other_played G is (operand.Mask k x) d h m = tt

others_never : (G : Table) (is : List PlainInst) (d r l : Role) (fs : List Form) (os : List Plain)
    → are_others fs ≡ true → are_free d r l ≡ true → AreOf G fs os → IsOneMiscast is d r l os → ⊥
others_never G is d r l _ _ h k AreOf.none m = m
others_never G is d r l _ _ h k (AreOf.more g u gs us i a) m =
    let two = both (is_other g) (are_others gs) h in
    let other : g ≡ form.Other = its_other g two.0 in
    let first : is_of G form.Other u ≡ true = subst (λ (p : Form). is_of G p u ≡ true) other i in
    ⊎_elim
    (λ (n : ¬ (IsPlayed is d u)). n (other_played G is u d (both (is_free d) (is_free r && is_free l) k).0 first))
    (λ (n : IsOneMiscast is (due_after d r l u) (next_after r l u) l us). others_never G is (due_after d r l u)
    (next_after r l u) l gs us two.1 (free_after d r l u k) a n)
    m

-- the uses among operands that are what is asked of them
kept_first : (G : Table) (is : List PlainInst) (d r : Role) (g f : Form) (u o : Plain) (q : Role) (x : ℕ)
    → is_of G g u ≡ true → fits g d r ≡ true → IsPlayed is d u
    → Some g ≡ Some f → Some u ≡ Some o → role_of f o ≡ Some q → id_of o ≡ Some x → Plays is q x
kept_first G is d r g f u o q x i h p a b e s =
    let one : g ≡ f = cc in
    let two : u ≡ o = cc in
    kept G is g u d r q x i h (rw (one, two) e) (rw two s) p

kept_more : (G : Table) (is : List PlainInst) (d r l : Role) (g : Form) (u : Plain) (gs : List Form) (us : List Plain)
    (b : Bool) → is_other g ≡ b
    → (if b then are_free d r l && are_others gs else (fits g d r && asks (due_by d r l g) (next_by r l g) l gs)) ≡ true
    → is_of G g u ≡ true → ArePlayed is d r l (u ∷ us)
    → (k : ℕ) (f : Form) (o : Plain) (q : Role) (x : ℕ) → slice_get (g ∷ gs) k ≡ Some f → slice_get (u ∷ us) k ≡ Some o
    → role_of f o ≡ Some q → id_of o ≡ Some x
    → ((d r : Role) (m : ℕ) → asks d r l gs ≡ true → ArePlayed is d r l us → slice_get gs m ≡ Some f
    → slice_get us m ≡ Some o → Plays is q x) → Plays is q x
kept_more G is d r l g u gs us true w h i p k f o q x a b e s rest =
    let two = both (are_free d r l) (are_others gs) h in
    others_free is (g ∷ gs) k f o q x (and_yes (is_other g) (are_others gs) w two.1) a e
kept_more G is d r l g u gs us false w h i p zero f o q x a b e s rest =
    let two = both (fits g d r) (asks (due_by d r l g) (next_by r l g) l gs) h in
    kept_first G is d r g f u o q x i two.0 p.0 a b e s
kept_more G is d r l g u gs us false w h i p (suc k) f o q x a b e s rest =
    let two = both (fits g d r) (asks (due_by d r l g) (next_by r l g) l gs) h in
    let due = same_due G g u d r l i w two.0 in
    let next = same_next G g u r l i w in
    rest (due_by d r l g) (next_by r l g) k two.1 (rw (← due, ← next) p.1) a b

all_kept : (G : Table) (is : List PlainInst) (d r l : Role) (fs : List Form) (os : List Plain) → asks d r l fs ≡ true
    → AreOf G fs os → ArePlayed is d r l os
    → (k : ℕ) (f : Form) (o : Plain) (q : Role) (x : ℕ) → slice_get fs k ≡ Some f → slice_get os k ≡ Some o
    → role_of f o ≡ Some q → id_of o ≡ Some x → Plays is q x
all_kept G is d r l _ _ h AreOf.none p k f o q x a b e s = cc
all_kept G is d r l _ _ h (AreOf.more g u gs us i rest) p k f o q x a b e s =
    kept_more G is d r l g u gs us (is_other g) refl h i p k f o q x a b e s
    (λ c t m y z v w. all_kept G is c t l gs us y rest z m f o q x v w e s)

-- a use among operands that is not in its role
record IsWrongAmong (is : List PlainInst) (fs : List Form) (os : List Plain) : Type 0 where
  pub place : ℕ
  pub form : Form
  pub operand : Plain
  pub form_at : slice_get fs place ≡ Some form
  pub operand_at : slice_get os place ≡ Some operand
  pub wrong : IsUsedWrongly is form operand

wrong_later : (is : List PlainInst) (f : Form) (fs : List Form) (o : Plain) (os : List Plain) → IsWrongAmong is fs os
    → IsWrongAmong is (f ∷ fs) (o ∷ os)
wrong_later is f fs o os w =
    record {
      place = suc w.place;
      form = w.form;
      operand = w.operand;
      form_at = w.form_at;
      operand_at = w.operand_at;
      wrong = w.wrong;
    }

wrong_more : (G : Table) (is : List PlainInst) (d r l : Role) (g : Form) (u : Plain) (gs : List Form) (us : List Plain)
    (b : Bool) → is_other g ≡ b
    → (if b then are_free d r l && are_others gs else (fits g d r && asks (due_by d r l g) (next_by r l g) l gs)) ≡ true
    → is_of G g u ≡ true → AreOf G gs us → IsOneMiscast is d r l (u ∷ us)
    → ((d r : Role) → asks d r l gs ≡ true → IsOneMiscast is d r l us → IsWrongAmong is gs us)
    → IsWrongAmong is (g ∷ gs) (u ∷ us)
wrong_more G is d r l g u gs us true w h i a m rest =
    let two = both (are_free d r l) (are_others gs) h in
    absurd (others_never G is d r l (g ∷ gs) (u ∷ us) (and_yes (is_other g) (are_others gs) w two.1) two.0
    (AreOf.more g u gs us i a) m)
wrong_more G is d r l g u gs us false w h i a m rest =
    let two = both (fits g d r) (asks (due_by d r l g) (next_by r l g) l gs) h in
    let due = same_due G g u d r l i w two.0 in
    let next = same_next G g u r l i w in
    ⊎_elim
    (λ (n : ¬ (IsPlayed is d u)). record {
      place = zero;
      form = g;
      operand = u;
      form_at = refl;
      operand_at = refl;
      wrong = broken G is g u d r i two.0 n;
    })
    (λ (n : IsOneMiscast is (due_after d r l u) (next_after r l u) l us). wrong_later is g gs u us
    (rest (due_by d r l g) (next_by r l g) two.1 (rw (← due, ← next) n)))
    m

one_wrong : (G : Table) (is : List PlainInst) (d r l : Role) (fs : List Form) (os : List Plain) → asks d r l fs ≡ true
    → AreOf G fs os → IsOneMiscast is d r l os → IsWrongAmong is fs os
one_wrong G is d r l _ _ h AreOf.none m = absurd m
one_wrong G is d r l _ _ h (AreOf.more g u gs us i rest) m =
    wrong_more G is d r l g u gs us (is_other g) refl h i rest m (λ c t y z. one_wrong G is c t l gs us y rest z)

-- Tests of rows.

-- forms that may come in turn, with d or r due
abbrev stays : Form → Bool
stays (form.Kind k) = not (has_masks k)
stays form.Other = false
stays _ = true

abbrev all_plain : Role → Role → List Form → Bool
all_plain d r [] = true
all_plain d r (f ∷ fs) = (stays f && (fits f d r && fits f r r)) && all_plain d r fs

abbrev asks_ending : Role → Role → Role → RowEnding → Bool
asks_ending d r l closed = true
asks_ending d r l (maybe f) = all_plain d r (f ∷ [])
asks_ending d r l file_and_text = false
asks_ending d r l (repeated fs) = all_plain d r fs
asks_ending d r l others = are_free d r l
asks_ending d r l (maybe_others f) = not (is_other f) && (fits f d r && are_free (due_by d r l f) (next_by r l f) l)
asks_ending d r l (maybe_repeated f g) =
    not (is_other f) && (fits f d r && all_plain (due_by d r l f) (next_by r l f) (g ∷ []))

abbrev asks_row : Role → Role → Role → List Form → RowEnding → Bool
asks_row d r l [] e = asks_ending d r l e
asks_row d r l (f ∷ fs) e = not (is_other f) && (fits f d r && asks_row (due_by d r l f) (next_by r l f) l fs e)

-- one form more, where it is no other
one_more : (d r l : Role) (f : Form) (fs : List Form) → is_other f ≡ false → fits f d r ≡ true
    → asks (due_by d r l f) (next_by r l f) l fs ≡ true → asks d r l (f ∷ fs) ≡ true
one_more d r l f fs n h k = rw (n, h) k

no_other : (f : Form) → stays f ≡ true → is_other f ≡ false
no_other form.Other h = cc
no_other f h = refl

-- after a form that stays, d or r is due
due_of : (P : Role → Type 0) (d r l : Role) (f : Form) → stays f ≡ true → P d → P r → P (due_by d r l f)
due_of P d r l (form.Id q) h a b = b
due_of P d r l form.Unseen h a b = b
due_of P d r l (form.Kind k) h a b = let e : has_masks k ≡ false = not_true (has_masks k) h in rw e a
due_of P d r l form.Other h a b = cc
due_of P d r l f h a b = a

next_of : (r l : Role) (f : Form) → stays f ≡ true → next_by r l f ≡ r
next_of r l (form.Kind k) h = let e : has_masks k ≡ false = not_true (has_masks k) h in rw e refl
next_of r l form.Other h = cc
next_of r l f h = refl

plain_asks : (d r l : Role) (fs : List Form) → all_plain d r fs ≡ true → (asks d r l fs ≡ true) × (asks r r l fs ≡ true)
plain_asks d r l [] h = (refl, refl)
plain_asks d r l (f ∷ fs) h =
    let two = both (stays f && (fits f d r && fits f r r)) (all_plain d r fs) h in
    let first = both (stays f) (fits f d r && fits f r r) two.0 in
    let fit = both (fits f d r) (fits f r r) first.1 in
    let rest = plain_asks d r l fs two.1 in
    let next : next_by r l f ≡ r = next_of r l f first.0 in
    let after_d : asks (due_by d r l f) (next_by r l f) l fs ≡ true = rw next
    (due_of (λ c. asks c r l fs ≡ true) d r l f first.0 rest.0 rest.1) in
    let after_r : asks (due_by r r l f) (next_by r l f) l fs ≡ true = rw next rest.1 in
    (one_more d r l f fs (no_other f first.0) fit.0 after_d, one_more r r l f fs (no_other f first.0) fit.1 after_r)

plain_append : (d r : Role) (fs gs : List Form) → all_plain d r fs ≡ true → all_plain d r gs ≡ true
    → all_plain d r (fs ++ gs) ≡ true
plain_append d r [] gs h k = k
plain_append d r (f ∷ fs) gs h k =
    let two = both (stays f && (fits f d r && fits f r r)) (all_plain d r fs) h in
    and_yes (stays f && (fits f d r && fits f r r)) (all_plain d r (fs ++ gs)) two.0 (plain_append d r fs gs two.1 k)

plain_repeated : (d r : Role) (fs gs : List Form) → all_plain d r fs ≡ true → Ends (repeated fs) gs
    → all_plain d r gs ≡ true
plain_repeated d r fs gs h (Ends.done _) = refl
plain_repeated d r fs gs h (Ends.again _ hs e) = plain_append d r fs hs h (plain_repeated d r fs hs h e)

others_only : (gs : List Form) → Ends others gs → are_others gs ≡ true
others_only gs Ends.no_other = refl
others_only gs (Ends.other hs e) = others_only hs e

free_asks : (d r l : Role) (gs : List Form) → are_free d r l ≡ true → are_others gs ≡ true → asks d r l gs ≡ true
free_asks d r l [] h k = refl
free_asks d r l (g ∷ gs) h k =
    let two = both (is_other g) (are_others gs) k in
    rw two.0 (and_yes (are_free d r l) (are_others gs) h two.1)

ending_asks : (d r l : Role) (e : RowEnding) (gs : List Form) → asks_ending d r l e ≡ true → Ends e gs
    → asks d r l gs ≡ true
ending_asks d r l closed gs h Ends.nothing = refl
ending_asks d r l (maybe f) gs h (Ends.absent _) = refl
ending_asks d r l (maybe f) gs h (Ends.present _) = (plain_asks d r l (f ∷ []) h).0
ending_asks d r l file_and_text gs h e = cc
ending_asks d r l (repeated fs) gs h e = (plain_asks d r l gs (plain_repeated d r fs gs h e)).0
ending_asks d r l others gs h e = free_asks d r l gs h (others_only gs e)
ending_asks d r l (maybe_others f) gs h (Ends.no_kind _) = refl
ending_asks d r l (maybe_others f) gs h (Ends.kind _ hs e) =
    let two = both (not (is_other f)) (fits f d r && are_free (due_by d r l f) (next_by r l f) l) h in
    let more = both (fits f d r) (are_free (due_by d r l f) (next_by r l f) l) two.1 in
    one_more d r l f hs (not_true (is_other f) two.0) more.0
    (free_asks (due_by d r l f) (next_by r l f) l hs more.1 (others_only hs e))
ending_asks d r l (maybe_repeated f g) gs h (Ends.no_first _ _) = refl
ending_asks d r l (maybe_repeated f g) gs h (Ends.first _ _ hs e) =
    let two = both (not (is_other f)) (fits f d r && all_plain (due_by d r l f) (next_by r l f) (g ∷ [])) h in
    let more = both (fits f d r) (all_plain (due_by d r l f) (next_by r l f) (g ∷ [])) two.1 in
    one_more d r l f hs (not_true (is_other f) two.0) more.0
    (plain_asks (due_by d r l f) (next_by r l f) l hs
    (plain_repeated (due_by d r l f) (next_by r l f) (g ∷ []) hs more.1 e)).0

row_asks : (d r l : Role) (fs : List Form) (e : RowEnding) (gs : List Form) → asks_row d r l fs e ≡ true → Ends e gs
    → asks d r l (fs ++ gs) ≡ true
row_asks d r l [] e gs h n = ending_asks d r l e gs h n
row_asks d r l (f ∷ fs) e gs h n =
    let two = both (not (is_other f)) (fits f d r && asks_row (due_by d r l f) (next_by r l f) l fs e) h in
    let more = both (fits f d r) (asks_row (due_by d r l f) (next_by r l f) l fs e) two.1 in
    one_more d r l f (fs ++ gs) (not_true (is_other f) two.0) more.0
    (row_asks (due_by d r l f) (next_by r l f) l fs e gs more.1 n)

-- The test of all rows of the table of shapes, opcode by opcode.
abbrev asks_by : Option Asked → List Form → RowEnding → Bool
asks_by None fs e = true
asks_by (Some a) fs e = asks_row a.first a.others a.masked fs e

abbrev asks_in : ℕ → PlainRow → Bool
asks_in n r = asks_by (asked_of n) r.fixed r.ending

all_fit : all_pass asks_in rows ≡ true
unfolding rows
all_fit = refl

told : (n : ℕ) (a : Asked) (fs : List Form) (e : RowEnding) → asked_of n ≡ Some a → asks_by (asked_of n) fs e ≡ true
    → asks_row a.first a.others a.masked fs e ≡ true
told n a fs e k h = subst (λ (o : Option Asked). asks_by o fs e ≡ true) k h

forms_ask : (G : Table) (i : PlainInst) (fs : List Form) (a : Asked) → asked_of i.opcode ≡ Some a → HasForms G i fs
    → asks a.first a.others a.masked fs ≡ true
forms_ask G i fs a k has =
    let known : row_in rows i.opcode ≡ Some has.row = has.known in
    let h = told i.opcode a has.row.fixed has.row.ending k (one_passes asks_in rows i.opcode has.row all_fit known) in
    let e : fs ≡ has.row.fixed ++ has.rest = has.forms in
    rw e (row_asks a.first a.others a.masked has.row.fixed has.row.ending has.rest h has.ending)

-- what opcodes ask for that ask for values
pub asked_values : (n : ℕ) → asks_values n ≡ true
    → asked_of n ≡ Some (record { first = role.Value; others = role.Value; masked = role.Any })
asked_values n e = rw e refl

-- The code's answer is that of the shape.
pub judged : (G : Table) (is : List PlainInst) (i : PlainInst) (a : Asked) (to : ℕ) (b : Bool)
    → asked_of i.opcode ≡ Some a → FitsShape G i
    → MatchBool b (ArePlayed is a.first a.others a.masked i.operands)
    (IsOneMiscast is a.first a.others a.masked i.operands)
    → MatchBool b (AreInRoleBefore G is i to) (HasMiscast G is i)
judged G is i a to true k f p = record {
  each = λ n l x q u.
      all_kept G is a.first a.others a.masked u.forms i.operands
      (forms_ask G i u.forms a k u.has) u.has.each p n u.form u.operand q x u.form_at u.operand_at u.role u.id;
}
judged G is i a to false k f m =
    let w = one_wrong G is a.first a.others a.masked f.forms i.operands
    (forms_ask G i f.forms a k f.has) f.has.each m in
    record {
      place = w.place;
      miscast = record {
        id = w.wrong.id;
        role = w.wrong.role;
        used = record {
          forms = f.forms;
          has = f.has;
          form = w.form;
          operand = w.operand;
          form_at = w.form_at;
          operand_at = w.operand_at;
          role = w.wrong.used;
          id = w.wrong.is_id;
        };
        not = w.wrong.never;
      };
    }
