-- The types of a function and its parameters are those of its signature.
use Rattle.std.proofs.Common.{◌≡◌, ◌≢◌, ◌∙◌, ◌≤◌, ◌<◌, ◌+◌, ℕ, zero, suc, List, [], ◌∷◌, map, true, false, ◌||◌, nat_eq}
use Rattle.std.proofs.Common.{if◌then◌else◌, Option, Some, None, refl, sym, ap, subst, arith, length, drop}
use Rattle.std.specs.Prelude.{slice_get, option_and_then, IsSomeAnd}
use Rattle.std.proofs.lemmas.Bool.{ne_eqb}
use Rattle.std.proofs.lemmas.Option.{none-some, same_Some, slice_get_within}
use Rattle.spv_table.specs.Table.{Table}
use Rattle.spv_module.specs.Operand.{Plain, PlainInst, Id, type_in}
use Rattle.spv_module.specs.Operand as operand
use Rattle.spv_module.specs.declared.fault.Rule.TheVariants as rule
use Rattle.spv_module.specs.declared.opcode.TheConstants as opcode
use Rattle.spv_type_forms.specs.Parts.{id_in}
use Rattle.spv_type_rules.specs.Function.{signature_of, ReturnsAfter, parameters_after, parameters_between}
use Rattle.spv_type_rules.specs.Function.{parameter_type_of}
use Rattle.spv_type_rules.specs.inner.Function.{parameters_in}
use Rattle.spv_type_rules.specs.inner.Counted.{AreCounted}
use Rattle.spv_type_rules.proofs.Counting.{none_counted, counted_next, at_function, at_parameter, at_other, counted_at}
use Rattle.spv_type_rules.proofs.Counting.{front_ends, front_counts, front_passes}
use Rattle.spv_run.specs.Act.{Act, Function, Parameter, Label, Other, act_of}
use Rattle.spv_run.specs.At.{act_at}
use Rattle.spv_run.specs.Head.{Binding, Head, end, parameter, line}
use Rattle.spv_run.proofs.Place.{IsOf}
use Rattle.spv_run.proofs.LaidOut.{IsLaidOut}
use Rattle.spv_run.proofs.Fit.{AllFit}
use Rattle.spv_run.proofs.Checked.{HasSignatures}
use Rattle.spv_run.proofs.Basics.{act_back, type_here}
use Rattle.spv_run.proofs.Places.{of_next}
use Rattle.spv_run.proofs.Shapes.{View, view, is_other}
use Rattle.spv_run.proofs.Standing.{of_function, here_within}
use Rattle.spv_run.proofs.Passing.{from_here}
use Rattle.spv_run.proofs.Rows.{some_and}
use Rattle.spv_run.proofs.Typing.{AreTyped, of_it}

-- The opcodes of what stands in a head and after it.

-- what an act says of an opcode
pub data Opcode (n : ℕ) : Act → Type 0 where
  a_function : n ≡ 54 → Opcode n Function
  a_parameter : n ≡ 55 → Opcode n Parameter
  a_label : n ≡ 248 → Opcode n Label
  no_special : is_other n ≡ true → Opcode n Other
  another : (a : Act) → a ≢ Function → a ≢ Parameter → a ≢ Label → a ≢ Other → Opcode n a

opcode_view : (G : Table) (i : PlainInst) (a : Act) → View G i a → Opcode i.opcode a
opcode_view G i _ (View.function a b k' m s e os) = Opcode.a_function e
opcode_view G i _ (View.parameter a b e os) = Opcode.a_parameter e
opcode_view G i _ (View.label b e os) = Opcode.a_label e
opcode_view G i _ (View.other e) = Opcode.no_special e
opcode_view G i _ (View.function_end e os) = Opcode.another _ (λ h. cc) (λ h. cc) (λ h. cc) (λ h. cc)
opcode_view G i _ (View.call a b d os gs e same en each) = Opcode.another _ (λ h. cc) (λ h. cc) (λ h. cc) (λ h. cc)
opcode_view G i _ (View.phi a b os gs e same en each) = Opcode.another _ (λ h. cc) (λ h. cc) (λ h. cc) (λ h. cc)
opcode_view G i _ (View.branch y e same) = Opcode.another _ (λ h. cc) (λ h. cc) (λ h. cc) (λ h. cc)
opcode_view G i _ (View.condition s y z os gs e same en each) = Opcode.another _ (λ h. cc) (λ h. cc) (λ h. cc) (λ h. cc)
opcode_view G i _ (View.switch s y os gs e same en each) = Opcode.another _ (λ h. cc) (λ h. cc) (λ h. cc) (λ h. cc)
opcode_view G i _ (View.return e os) = Opcode.another _ (λ h. cc) (λ h. cc) (λ h. cc) (λ h. cc)
opcode_view G i _ (View.value y e os) = Opcode.another _ (λ h. cc) (λ h. cc) (λ h. cc) (λ h. cc)
opcode_view G i _ (View.unreachable e os) = Opcode.another _ (λ h. cc) (λ h. cc) (λ h. cc) (λ h. cc)

function_by : (n : ℕ) (a : Act) → Opcode n a → a ≡ Function → n ≡ 54
function_by n _ (Opcode.a_function e) h = e
function_by n _ (Opcode.another a f p l o) h = absurd (f h)
function_by n _ _ h = cc

parameter_by : (n : ℕ) (a : Act) → Opcode n a → a ≡ Parameter → n ≡ 55
parameter_by n _ (Opcode.a_parameter e) h = e
parameter_by n _ (Opcode.another a f p l o) h = absurd (p h)
parameter_by n _ _ h = cc

label_by : (n : ℕ) (a : Act) → Opcode n a → a ≡ Label → n ≡ 248
label_by n _ (Opcode.a_label e) h = e
label_by n _ (Opcode.another a f p l o) h = absurd (l h)
label_by n _ _ h = cc

other_by : (n : ℕ) (a : Act) → Opcode n a → a ≡ Other → is_other n ≡ true
other_by n _ (Opcode.no_special e) h = e
other_by n _ (Opcode.another a f p l o) h = absurd (o h)
other_by n _ _ h = cc

not_special : (n m : ℕ) → is_other n ≡ true → is_other m ≡ false → n ≢ m
not_special n m h g e = let w : true ≡ false = sym h ∙ (ap is_other e ∙ g) in cc

-- an instruction, by what it is to a run
record Found (is : List PlainInst) (n : ℕ) (a : Act) : Type 0 where
  pub inst : PlainInst
  pub there : slice_get is n ≡ Some inst
  pub kind : act_of inst ≡ a
  pub opcode : Opcode inst.opcode (act_of inst)

found : (G : Table) (is : List PlainInst) → AllFit G is → (n : ℕ) (a : Act) → act_at is n ≡ Some a → Found is n a
found G is fits n a h = let i = act_back is n a h in
    record {
      inst = i.0;
      there = i.1;
      kind = i.2;
      opcode = opcode_view G i.0 (act_of i.0) (view G i.0 (fits n i.0 i.1));
    }

-- Counting.

counted : (is : List PlainInst) (n : ℕ) → n ≤ length is → (c : ℕ) × AreCounted is n c
counted is zero h = (0, none_counted is)
counted is (suc n) h =
    let before = counted is n (omega (arith, h)) in
    let i = inst_there is n (omega (arith, h)) in
    let plus : n + 1 ≡ suc n = omega arith in
    let c = if nat_eq i.0.opcode 54 then 0 else (if nat_eq i.0.opcode 55 then before.0 + 1 else before.0) in
    (c, subst (λ m. AreCounted is m c) plus (counted_next is n before.0 i.0 i.1 before.1))
  where
    inst_there : (is : List PlainInst) (k : ℕ) → k < length is → (i : PlainInst) × (slice_get is k ≡ Some i)
    inst_there [] k h = absurd (omega (arith, h))
    inst_there (j ∷ is) zero h = (j, refl)
    inst_there (j ∷ is) (suc k) h = inst_there is k (omega (arith, h))

two_false : (n : ℕ) → n ≢ 248 → n ≢ 56 → (nat_eq n 248 || nat_eq n 56) ≡ false
two_false n h g = let a : nat_eq n 248 ≡ false = ne_eqb n 248 h in let b : nat_eq n 56 ≡ false = ne_eqb n 56 g in
    rw (a, b) refl

-- how many parameters a head has
count_at : (G : Table) (is : List PlainInst) → AllFit G is → (e n : ℕ) (bs : List Binding) → act_at is e ≡ Some Label
    → Head is e n bs → parameters_in (drop n is) ≡ length bs
count_at G is fits e _ _ h end =
    let i = found G is fits e Label h in
    let op = label_by i.inst.opcode (act_of i.inst) i.opcode i.kind in
    let test : (nat_eq i.inst.opcode 248 || nat_eq i.inst.opcode 56) ≡ true = rw op refl in
    ap parameters_in (from_here is e i.inst i.there) ∙ front_ends i.inst (drop (suc e) is) test
count_at G is fits e _ _ h (parameter n x t bs a r y rest) =
    let i = found G is fits n Parameter a in
    let op = parameter_by i.inst.opcode (act_of i.inst) i.opcode i.kind in
    let test : (nat_eq i.inst.opcode 248 || nat_eq i.inst.opcode 56) ≡ false = rw op refl in
    let more = count_at G is fits e (suc n) bs h rest in
    let one = ap parameters_in (from_here is n i.inst i.there) ∙ front_counts i.inst (drop (suc n) is) test op in
    omega (arith, one, more)
count_at G is fits e _ _ h (line n bs a r rest) =
    let i = found G is fits n Other a in
    let op = other_by i.inst.opcode (act_of i.inst) i.opcode i.kind in
    let test = two_false i.inst.opcode (not_special i.inst.opcode 248 op refl) (not_special i.inst.opcode 56 op refl) in
    ap parameters_in (from_here is n i.inst i.there)
    ∙ (front_passes i.inst (drop (suc n) is) test (not_special i.inst.opcode 55 op refl)
    ∙ count_at G is fits e (suc n) bs h rest)

-- The types of parameters.

-- of an id among types, from the place after the first
an_id_there : (o : Option Plain) (t : ℕ) → option_and_then id_in o ≡ Some t → o ≡ Some (Id t)
an_id_there None t h = absurd (none-some t h)
an_id_there (Some (operand.Id x)) t h = ap (λ y. Some (Id y)) (same_Some x t h)
an_id_there (Some (operand.OfType x)) t h = absurd (none-some t h)
an_id_there (Some (operand.Result x)) t h = absurd (none-some t h)
an_id_there (Some (operand.Word x)) t h = absurd (none-some t h)
an_id_there (Some (operand.Argument x)) t h = absurd (none-some t h)
an_id_there (Some (operand.Mention x)) t h = absurd (none-some t h)
an_id_there (Some (operand.Number a b w)) t h = absurd (none-some t h)
an_id_there (Some (operand.Text x)) t h = absurd (none-some t h)
an_id_there (Some (operand.Value k x)) t h = absurd (none-some t h)
an_id_there (Some (operand.Mask k x)) t h = absurd (none-some t h)

parameter_there : (is : List PlainInst) (i : PlainInst) (r : Plain) (ps : List Plain) (c t : ℕ)
    → signature_of is i ≡ Some (r ∷ ps) → parameter_type_of is i c ≡ Some t → slice_get ps c ≡ Some (Id t)
parameter_there is i r ps c t s h =
    let h' : option_and_then id_in (slice_get (r ∷ ps) (c + 1)) ≡ Some t = rw s at h in
    let plus : c + 1 ≡ suc c = omega arith in
    let h'' : option_and_then id_in (slice_get ps c) ≡ Some t = rw plus at h' in
    an_id_there (slice_get ps c) t h''

pub types_at : (G : Table) (is : List PlainInst) → AllFit G is → IsLaidOut is → AreTyped G is → (g : ℕ) (i : PlainInst)
    → slice_get is g ≡ Some i → (r : Plain) (ps : List Plain) → signature_of is i ≡ Some (r ∷ ps)
    → (e n : ℕ) (bs : List Binding) → Head is e n bs → (c : ℕ) → AreCounted is n c → IsOf is g n
    → (m : ℕ) (b : Binding) → slice_get bs m ≡ Some b → slice_get ps (c + m) ≡ Some (Id b.tag)
types_at G is fits laid typed g i at r ps s e _ _ end c k o m b h = absurd (none-some b h)
types_at G is fits laid typed g i at r ps s e _ _ (parameter n x t bs a q y rest) c k o zero b h =
    let j = found G is fits n Parameter a in
    let op = parameter_by j.inst.opcode (act_of j.inst) j.opcode j.kind in
    let sound = (typed rule.Y6 n j.inst j.there).parameter op in
    let P : ℕ → PlainInst
    → Type 0 = λ f d. IsSomeAnd (type_in j.inst.operands)
    (λ t. parameter_type_of is d (parameters_between is f n) ≡ Some t) in
    let d = some_and (P g) (slice_get is g) (of_it G is fits laid P g n o sound) in
    let u = some_and (λ t. parameter_type_of is d.0 (parameters_between is g n) ≡ Some t)
    (type_in j.inst.operands) d.2 in
    let inst : d.0 ≡ i = same_Some d.0 i (sym d.1 ∙ at) in
    let between : parameters_between is g n ≡ c = counted_at is n c g j.inst j.there op k
    (of_function G is fits laid g n o (here_within is n Parameter a)) in
    let type_is : u.0 ≡ t = same_Some u.0 t (sym u.1 ∙ (sym (type_here is n j.inst j.there) ∙ y)) in
    let tag : b.tag ≡ t = ap (λ (z : Binding). z.tag) (sym (same_Some (record { id = x; tag = t }) b h)) in
    let there : parameter_type_of is i c ≡ Some b.tag =
    ap (λ d. parameter_type_of is d c) (sym inst)
    ∙ (ap (parameter_type_of is d.0) (sym between) ∙ (u.2 ∙ ap Some (type_is ∙ sym tag))) in
    let plus : c ≡ c + zero = omega arith in
    subst (λ z. slice_get ps z ≡ Some (Id b.tag)) plus (parameter_there is i r ps c b.tag s there)
types_at G is fits laid typed g i at r ps s e _ _ (parameter n x t bs a q y rest) c k o (suc m) b h =
    let j = found G is fits n Parameter a in
    let op = parameter_by j.inst.opcode (act_of j.inst) j.opcode j.kind in
    let one : n + 1 ≡ suc n = omega arith in
    let next : AreCounted is (suc n) (c + 1) = subst (λ z. AreCounted is z (c + 1)) one
    (at_parameter is n c j.inst j.there op k) in
    let plus : (c + 1) + m ≡ c + suc m = omega arith in
    subst (λ z. slice_get ps z ≡ Some (Id b.tag)) plus
    (types_at G is fits laid typed g i at r ps s e (suc n) bs rest (c + 1) next
    (of_next is g n Parameter o a refl) m b h)
types_at G is fits laid typed g i at r ps s e _ _ (line n bs a q rest) c k o m b h =
    let j = found G is fits n Other a in
    let op = other_by j.inst.opcode (act_of j.inst) j.opcode j.kind in
    let one : n + 1 ≡ suc n = omega arith in
    let next : AreCounted is (suc n) c = subst (λ z. AreCounted is z c) one
    (at_other is n c j.inst j.there (not_special j.inst.opcode 54 op refl) (not_special j.inst.opcode 55 op refl) k)
    in
    types_at G is fits laid typed g i at r ps s e (suc n) bs rest c next (of_next is g n Other o a refl) m b h

-- a list of ids, by its places
same_list : (ps : List Plain) (bs : List Binding) → length ps ≡ length bs
    → ((m : ℕ) (b : Binding) → slice_get bs m ≡ Some b → slice_get ps m ≡ Some (Id b.tag))
    → ps ≡ map Id (map (λ (b : Binding). b.tag) bs)
same_list [] [] l h = refl
same_list [] (b ∷ bs) l h = absurd (omega (arith, l))
same_list (p ∷ ps) [] l h = absurd (omega (arith, l))
same_list (p ∷ ps) (b ∷ bs) l h =
    let first : p ≡ Id b.tag = same_Some p (Id b.tag) (h 0 b refl) in
    let rest = same_list ps bs (omega (arith, l)) (λ m c e. h (suc m) c e) in
    ap (λ q. q ∷ ps) first ∙ ap (λ qs. Id b.tag ∷ qs) rest

-- what Y6 says at an OpFunction
record Signed (is : List PlainInst) (g : ℕ) (i : PlainInst) : Type 0 where
  pub returns : ℕ
  pub result : type_in i.operands ≡ Some returns
  pub parameters : List Plain
  pub signature : signature_of is i ≡ Some (Id returns ∷ parameters)
  pub count : length parameters ≡ parameters_after is g

signed : (is : List PlainInst) (g : ℕ) (i : PlainInst)
    → IsSomeAnd (signature_of is i) (ReturnsAfter (type_in i.operands) (parameters_after is g)) → Signed is g i
signed is g i h =
    let s = some_and (ReturnsAfter (type_in i.operands) (parameters_after is g)) (signature_of is i) h in
    by_list s.0 s.1 s.2 where
      by_list : (ts : List Plain) → signature_of is i ≡ Some ts
          → ReturnsAfter (type_in i.operands) (parameters_after is g) ts → Signed is g i
      by_list (operand.Id t ∷ ps) e r =
          record { returns = t; result = r.0; parameters = ps; signature = e; count = r.1 }
      by_list _ e r = absurd r

-- Y6
pub has_signatures : (G : Table) (is : List PlainInst) → AllFit G is → IsLaidOut is → AreTyped G is → HasSignatures is
has_signatures G is fits laid typed = λ g e bs i at d.
    let f = found G is fits g Function d.function in
    let inst : f.inst ≡ i = same_Some f.inst i (sym f.there ∙ at) in
    let op : i.opcode ≡ opcode.FUNCTION = ap (λ (j : PlainInst). j.opcode) (sym inst)
    ∙ function_by f.inst.opcode (act_of f.inst) f.opcode f.kind in
    let s = signed is g i ((typed rule.Y6 g i at).function op) in
    let within = slice_get_within is g i at in
    let before = counted is g (omega (arith, within)) in
    let one : g + 1 ≡ suc g = omega arith in
    let none : AreCounted is (suc g) 0 = subst (λ z. AreCounted is z 0) one
    (at_function is g before.0 i at op before.1) in
    let alone : IsOf is g g = record {
      function = d.function;
      from = omega arith;
      within = λ k l u. absurd (omega (arith, l, u));
    } in
    let o : IsOf is g (suc g) = of_next is g g Function alone d.function refl in
    let each = types_at G is fits laid typed g i at (Id s.returns) s.parameters s.signature e
    (suc g) bs d.head 0 none o in
    let count : parameters_after is g ≡ length bs = ap (λ z. parameters_in (drop z is)) one
    ∙ count_at G is fits e (suc g) bs d.entry d.head in
    let list : s.parameters ≡ map Id (map (λ (b : Binding). b.tag) bs) = same_list s.parameters bs (s.count ∙ count)
    (λ m b h. let z : 0 + m ≡ m = omega arith in subst (λ k. slice_get s.parameters k ≡ Some (Id b.tag)) z (each m b h))
    in
    (s.returns, s.result, s.signature ∙ ap (λ ps. Some (Id s.returns ∷ ps)) list)
