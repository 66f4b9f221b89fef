-- In a frame that stands on a walk the types of all used values are read, and the row holds with them.
use Rattle.std.proofs.Common.{◌≡◌, ◌∙◌, ◌⊎◌, inl, inr, ℕ, zero, suc, List, [], ◌∷◌, map, Bool, true, false, nat_eq}
use Rattle.std.proofs.Common.{Option, Some, None, refl, sym, ap, subst, Contains, slice_get, option_map}
use Rattle.std.proofs.Common.{option_and_then}
use Rattle.std.specs.List.{AllByRecursion}
use Rattle.std.proofs.lemmas.Option.{same_Some, none-some}
use Rattle.std.proofs.lemmas.Bool.{cases_Bool}
use Rattle.spv_table.specs.Table.{Table}
use Rattle.spv_module.specs.Operand.{PlainInst}
use Rattle.spv_module.specs.Width.{type_of}
use Rattle.spv_run.specs.Act.{Act, Function, Parameter, FunctionEnd, Label, Phi, Choose, Call, ReturnValue, Other, Pair}
use Rattle.spv_run.specs.Act.{act_of}
use Rattle.spv_run.specs.At.{act_at, result_at, value_from}
use Rattle.spv_run.proofs.Place.{IsLocal}
use Rattle.spv_run.proofs.Walk.{Defined, is_label, before_label}
use Rattle.spv_run.specs.Row.{values_of, Row}
use Rattle.spv_run.specs.State.{Frame, bound_type}
use Rattle.spv_run.specs.Machine.{Reads, ReadsAll, ReadsOthers, read_values}
use Rattle.spv_run.proofs.Checked.{IsChecked, HaveTypes}
use Rattle.spv_run.proofs.Flow.{IsReadyOn}
use Rattle.spv_run.proofs.Rows.{phi_typed, typed_phi}
use Rattle.spv_run.proofs.Basics.{result_here, type_here, type_of_result, act_from, contains_here, contains_later}
use Rattle.spv_run.proofs.Frames.{Stands, Came, at_entry, by_jump}
use Rattle.spv_run.proofs.Standing.{is_local, local_is}
use Rattle.spv_run.proofs.LaidOut.{IsLaidOut}
use Rattle.spv_run.proofs.Fit.{AllFit}

-- a value that is defined on the walk, or not local, is read at its declared type
pub read : (G : Table) (is : List PlainInst) → AllFit G is → IsLaidOut is → (fr : Frame) (st : Stands is fr) (x t : ℕ)
    → (IsLocal is x → Defined is st.past x) → type_of is x ≡ Some t → Reads is fr x t
read G is fits laid fr st x t ready h = by_cases (bound_type fr.bound x) refl where
  by_cases : (o : Option ℕ) → bound_type fr.bound x ≡ o → Reads is fr x t
  by_cases None e = Reads.declared (λ l. let own = local_is G is fits x l in
      none-some t (sym e ∙ st.defined x t (ready own) own h)) h
  by_cases (Some s) e =
      let p = st.bound x s e in
      let same : Some s ≡ Some t = sym p.2 ∙ h in
      Reads.bound (is_local G is fits laid x (fr.function, p.1)) (e ∙ same)

pub reads_all : (G : Table) (is : List PlainInst) → AllFit G is → IsLaidOut is
    → (fr : Frame) (st : Stands is fr) (xs ts : List ℕ)
    → ((x : ℕ) → Contains xs x → IsLocal is x → Defined is st.past x) → HaveTypes is xs ts → ReadsAll is fr xs ts
reads_all G is fits laid fr st [] [] h d = tt
reads_all G is fits laid fr st [] (t ∷ ts) h d = absurd d
reads_all G is fits laid fr st (x ∷ xs) [] h d = absurd d
reads_all G is fits laid fr st (x ∷ xs) (t ∷ ts) h (e, d) = (
  read G is fits laid fr st x t (h x (contains_here x xs)) e,
  reads_all G is fits laid fr st xs ts (λ y c. h y (contains_later x y xs c)) d,
)

-- what a row says of each type, of one of them
all_at : (is : List PlainInst) (P : ℕ → Type 0) (xs ts : List ℕ) (k v : ℕ) → HaveTypes is xs ts → AllByRecursion P ts
    → slice_get xs k ≡ Some v → (t : ℕ) × (type_of is v ≡ Some t) × P t
all_at is P [] ts k v d a h = absurd (none-some v h)
all_at is P (x ∷ xs) [] k v d a h = absurd d
all_at is P (x ∷ xs) (t ∷ ts) zero v d a h = (t, ap (type_of is) (sym (same_Some x v h)) ∙ d.0, a.0)
all_at is P (x ∷ xs) (t ∷ ts) (suc k) v d a h = all_at is P xs ts k v d.1 a.1 h

-- the value of a pair is one of the values
paired : (ps : List Pair) (y v : ℕ) → value_from ps y ≡ Some v
    → (k : ℕ) × (slice_get (map (λ (p : Pair). p.value) ps) k ≡ Some v)
paired [] y v h = absurd (none-some v h)
paired (p ∷ ps) y v h = elim (cases_Bool (nat_eq p.parent y)) [
  | inl e ↦ (let g : Some p.value ≡ Some v = rw e at h in (0, g))
  | inr e ↦ (let g : value_from ps y ≡ Some v = rw e at h in let r = paired ps y v g in (suc r.0, r.1))
]

-- places before the last label are places
before_within : (is : List PlainInst) (past : List ℕ) (n x : ℕ) → Defined is (before_label is past n) x
    → Defined is past x
before_within is [] n x d = d
before_within is (h ∷ past) n x d = elim (cases_Bool (is_label is n)) [
  | inl e ↦ (let g : Defined is (h ∷ past) x = rw e at d in g)
  | inr e ↦ (let g : Defined is (before_label is past h) x = rw e at d in inr (before_within is past h x g))
]

-- The types read, and the row with them.
pub record Reading (G : Table) (is : List PlainInst) (fr : Frame) (i : PlainInst) (a : Act) : Type 0 where
  pub values : List ℕ
  pub tags : List ℕ
  pub which : read_values is fr i a ≡ Some values
  pub read : ReadsAll is fr values tags
  pub others : ReadsOthers G is fr
  pub row : Row is fr.function fr.position i a tags

abbrev is_phi : Act → Bool
is_phi (Phi ps) = true
is_phi _ = false

plain_values : (is : List PlainInst) (fr : Frame) (i : PlainInst) (a : Act) → is_phi a ≡ false
    → read_values is fr i a ≡ Some (values_of i a)
plain_values is fr i (Phi ps) h = cc
plain_values is fr i _ h = refl

plain_ready : (is : List PlainInst) (past : List ℕ) (n : ℕ) (i : PlainInst) (a : Act) → is_phi a ≡ false
    → IsReadyOn is past n i a
    → (x : ℕ) → Contains (values_of i a) x → IsLocal is x → Defined is past x
plain_ready is past n i (Phi ps) h r = λ x c l. absurd cc
plain_ready is past n i Function h r = r
plain_ready is past n i Parameter h r = r
plain_ready is past n i FunctionEnd h r = r
plain_ready is past n i Label h r = r
plain_ready is past n i (Act.Branch l) h r = r
plain_ready is past n i (Choose c ls) h r = r
plain_ready is past n i (Call f xs) h r = r
plain_ready is past n i Act.Return h r = r
plain_ready is past n i (ReturnValue v) h r = r
plain_ready is past n i Act.Unreachable h r = r
plain_ready is past n i Act.Misfit h r = r
plain_ready is past n i Other h r = r

-- local values that are used in the role any are bound
read_others : (G : Table) (is : List PlainInst) → IsChecked G is → (fr : Frame) → Stands is fr → ReadsOthers G is fr
read_others G is ok fr st k x used local =
    let d = ok.others fr.function fr.position k x st.past st.walk used local in
    let at : result_at is local.place ≡ Some x = result_here is local.place local.defined.inst local.defined.there
    ∙ local.defined.result in
    let typed : type_of is x ≡ Some local.of_type = type_of_result is ok.once local.place x at
    ∙ (type_here is local.place local.inst local.there ∙ local.typed) in
    (local.of_type, read G is ok.fits ok.layout fr st x local.of_type (λ l. d) typed)

plain_reading : (G : Table) (is : List PlainInst) → IsChecked G is → (fr : Frame) → Stands is fr → (i : PlainInst)
    → slice_get is fr.position ≡ Some i
    → is_phi (act_of i) ≡ false → Reading G is fr i (act_of i)
plain_reading G is ok fr st i h p =
    let a = act_of i in
    let xs = values_of i a in
    let types = ok.typed fr.function fr.position i st.inside h in
    let ready = plain_ready is st.past fr.position i a p (ok.ready fr.function fr.position st.past i st.walk h) in
    record {
      values = xs;
      tags = types.0;
      which = plain_values is fr i a p;
      read = reads_all G is ok.fits ok.layout fr st xs types.0 ready types.1;
      others = read_others G is ok fr st;
      row = types.2;
    }

-- the block come from, the pair for it, and the value's type
phi_reading : (G : Table) (is : List PlainInst) → IsChecked G is → (fr : Frame) → Stands is fr → (i : PlainInst)
    → slice_get is fr.position ≡ Some i
    → (ps : List Pair) → act_of i ≡ Phi ps → Reading G is fr i (Phi ps)
phi_reading G is ok fr st i h ps e = from st.source where
  phi : act_at is fr.position ≡ Some (Phi ps)
  phi = act_from is fr.position i (Phi ps) h e

  by_value : (p y v : ℕ) → fr.came_from ≡ Some p → result_at is p ≡ Some y → value_from ps y ≡ Some v
      → Reading G is fr i (Phi ps)
  by_value p y v c r w =
      let vs = map (λ (q : Pair). q.value) ps in
      let types : (tags : List ℕ) × HaveTypes is vs tags × Row is fr.function fr.position i (Phi ps) tags =
      (let Q : Act → Type 0 = λ a. (tags : List ℕ) × HaveTypes is (values_of i a) tags
      × Row is fr.function fr.position i a tags in
      subst Q e (ok.typed fr.function fr.position i st.inside h)) in
      let at = paired ps y v w in
      let typed = phi_typed G is fr.position i ps types.0 (ok.fits fr.position i h) e types.2 in
      let one = all_at is (λ t. t ≡ typed.of_type) vs types.0 at.0 v types.1 typed.each at.1 in
      let ready : IsReadyOn is st.past fr.position i (Phi ps) =
      (let Q : Act → Type 0 = λ a. IsReadyOn is st.past fr.position i a in
      subst Q e (ok.ready fr.function fr.position st.past i st.walk h)) in
      let now : IsLocal is v
      → Defined is st.past v = λ l. before_within is st.past fr.position v (ready p y v (sym st.came ∙ c) r w l) in
      record {
        values = v ∷ [];
        tags = one.0 ∷ [];
        which = rw (c, r, w) refl;
        read = (read G is ok.fits ok.layout fr st v one.0 now one.1, tt);
        others = read_others G is ok fr st;
        row = typed_phi G is fr.position i ps (one.0 ∷ []) (ok.fits fr.position i h) e
            (record {
              of_type = typed.of_type;
              result = typed.result;
              data_type = typed.data_type;
              each = (one.2, tt);
            });
      }

  from : Came is fr.function fr.came_from st.block → Reading G is fr i (Phi ps)
  from (at_entry bs c d) = absurd (ok.layout.phis fr.function st.block fr.position bs ps d st.here phi)
  from (by_jump p c q) =
      let label = ok.layout.labels p q.inside.label in
      let value = ok.parents st.block fr.position p label.1 ps st.here phi q label.3 in
      by_value p label.1 value.0 c label.3 value.1

which_act : (a : Act) → ((ps : List Pair) × (a ≡ Phi ps)) ⊎ (is_phi a ≡ false)
which_act (Phi ps) = inl (ps, refl)
which_act Function = inr refl
which_act Parameter = inr refl
which_act FunctionEnd = inr refl
which_act Label = inr refl
which_act (Act.Branch l) = inr refl
which_act (Choose c ls) = inr refl
which_act (Call f xs) = inr refl
which_act Act.Return = inr refl
which_act (ReturnValue v) = inr refl
which_act Act.Unreachable = inr refl
which_act Act.Misfit = inr refl
which_act Other = inr refl

pub reading : (G : Table) (is : List PlainInst) → IsChecked G is → (fr : Frame) → Stands is fr → (i : PlainInst)
    → slice_get is fr.position ≡ Some i → Reading G is fr i (act_of i)
reading G is ok fr st i h = elim (which_act (act_of i)) [
  | inl phi ↦ (let Q : Act → Type 0 = λ a. Reading G is fr i a in
      subst Q (sym phi.1) (phi_reading G is ok fr st i h phi.0 phi.1))
  | inr plain ↦ plain_reading G is ok fr st i h plain
]

-- of OpPhi one type is read
pub phi_tags : (is : List PlainInst) (fr : Frame) (i : PlainInst) (ps : List Pair) (xs tags : List ℕ)
    → read_values is fr i (Phi ps) ≡ Some xs → ReadsAll is fr xs tags
    → (t : ℕ) × (tags ≡ t ∷ [])
phi_tags is fr i ps xs tags h r =
    by_value (option_and_then (value_from ps) (option_and_then (result_at is) fr.came_from)) xs h tags r where
      by_value : (o : Option ℕ) (xs : List ℕ) → option_map (λ v. v ∷ []) o ≡ Some xs → (tags : List ℕ)
          → ReadsAll is fr xs tags → (t : ℕ) × (tags ≡ t ∷ [])
      by_value None xs g ts q = absurd (none-some xs g)
      by_value (Some v) xs g ts q =
          let Q : List ℕ → Type 0 = λ zs. ReadsAll is fr zs ts in
          one ts v (subst Q (sym (same_Some (v ∷ []) xs g)) q) where
            one : (ts : List ℕ) (v : ℕ) → ReadsAll is fr (v ∷ []) ts → (t : ℕ) × (ts ≡ t ∷ [])
            one [] v q = absurd q
            one (t ∷ []) v q = (t, refl)
            one (t ∷ u ∷ ts) v q = absurd q.1
