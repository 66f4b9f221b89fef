-- Whether a use stands before the definition.
use Rattle.std.proofs.Common.{◌≡◌, ◌<◌, ◌≤◌, ℕ, zero, suc, List, [], ◌∷◌, Bool, true, false, Option, Some, None, length}
use Rattle.std.proofs.Common.{refl, subst, arith}
use Rattle.std.specs.Prelude.{MatchBool, MatchOption, is_some, slice_get}
use Rattle.std.proofs.lemmas.Bool.{eqb-true}
use Rattle.spv_module.specs.declared.opcode.TheConstants as opcode
use Rattle.spv_table.specs.Table.{Table}
use Rattle.spv_module.specs.Operand.{PlainInst}
use Rattle.spv_layout.specs.declared.form.Role.{Role}
use Rattle.spv_layout.specs.declared.place.Place.{Place}
use Rattle.spv_layout.specs.Place.{IsOfBlock}
use Rattle.spv_layout.specs.Shape.{IsUse}
use Rattle.spv_ids.specs.Definition.{IsDefinedAt}
use Rattle.spv_flow.specs.branches.Target.{is_phi, IsOp}
use Rattle.spv_flow.specs.branches.Ready.{IsLocalValue}
use Rattle.spv_flow.specs.declared.walks.code.Code.{Code}
use Rattle.spv_flow.specs.walks.inner.Code.{insts_of, IsCode}
use Rattle.spv_flow.proofs.lemmas.branches.Labelled.{op_tells, use_in, use_at, use_within, one_id}
use Rattle.spv_flow.proofs.lemmas.walks.Coded.{one_place}
use Rattle.spv_block_order.specs.Early.{IsEarlyUse}
use Rattle.spv_block_order.specs.inner.Uses.{IsEarlyAt, IsEarlyAtBy, IsEarlyUseBy, IsLater, IsLaterBy}

later : (G : Table) (c : Code) (x n d : ℕ) → IsCode G c → IsDefinedAt (insts_of c) x d → n ≤ d
    → IsLocalValue (insts_of c) x → IsLater (insts_of c) n x
later G c x n d is defined le local = (
  local,
  λ m lt h. (let e = one_place G c x m d is h defined in absurd (omega (arith, e, le, lt))),
)

pub not_later : (is : List PlainInst) (x n d : ℕ) → IsDefinedAt is x d → d < n → ¬ (IsLater is n x)
not_later is x n d defined lt h = h.1 d lt defined

pub not_there : (is : List PlainInst) (x n : ℕ) → ((d : ℕ) → ¬ (IsDefinedAt is x d)) → ¬ (IsLater is n x)
not_there is x n none h = none h.0.place h.0.defined

-- where the definition does not stand below, it is told by whether it is local
pub by_local : (G : Table) (c : Code) (x n d : ℕ) (b : Bool) → IsCode G c → IsDefinedAt (insts_of c) x d → n ≤ d
    → MatchBool b (IsLocalValue (insts_of c) x) (¬ (IsLocalValue (insts_of c) x))
    → MatchBool b (IsLater (insts_of c) n x) (¬ (IsLater (insts_of c) n x))
by_local G c x n d true is defined le local = later G c x n d is defined le local
by_local G c x n d false is defined le not = λ h. not h.0

-- an operand that uses an id, by whether that is later
pub at_operand : (G : Table) (is : List PlainInst) (n k x : ℕ) (i : PlainInst) (b : Bool) → slice_get is n ≡ Some i
    → (r : Role) × IsUse G i k x r → MatchBool b (IsLater is n x) (¬ (IsLater is n x))
    → MatchBool b (IsEarlyAt G is n k) (¬ (IsEarlyAt G is n k))
at_operand G is n k x i true there (r, u) h =
    record { id = x; role = r; used = use_at G is n k x r i there u; later = h }
at_operand G is n k x i false there (r, u) h = λ e.
    let same = one_id G is n k e.id x e.role r e.used (use_at G is n k x r i there u) in
    h (subst (λ (y : ℕ). IsLater is n y) same e.later)

-- an operand that uses none
pub no_operand : (G : Table) (is : List PlainInst) (n k : ℕ) (i : PlainInst) → slice_get is n ≡ Some i
    → ((x : ℕ) (r : Role) → ¬ (IsUse G i k x r)) → ¬ (IsEarlyAt G is n k)
no_operand G is n k i there none e = none e.id e.role (use_in G is n k e.id e.role i there e.used)

-- An instruction with such an operand; and one of which none is, an OpPhi and one that is of no block.

pub early_here : (G : Table) (is : List PlainInst) (n k : ℕ) → ¬ (IsOp is n is_phi) → (b : ℕ) × IsOfBlock is n b
    → IsEarlyAt G is n k → IsEarlyUse G is n
early_here G is n k other (b, of) e = record {
  block = b;
  of = of;
  other = other;
  operand = k;
  id = e.id;
  role = e.role;
  used = e.used;
  local = e.later.0;
  undefined = e.later.1;
}

pub none_early : (G : Table) (is : List PlainInst) (n m : ℕ) (i : PlainInst) → slice_get is n ≡ Some i
    → length i.operands ≤ m → ((k : ℕ) → k < m → ¬ (IsEarlyAt G is n k)) → ¬ (IsEarlyUse G is n)
none_early G is n m i there all none e =
    let w = use_within G i e.operand e.id e.role (use_in G is n e.operand e.id e.role i there e.used) in
    none e.operand (omega (arith, w, all))
    (record { id = e.id; role = e.role; used = e.used; later = (e.local, e.undefined) })

pub phi_late : (G : Table) (is : List PlainInst) (n : ℕ) → IsOp is n is_phi → ¬ (IsEarlyUse G is n)
phi_late G is n op e = e.other op

pub outside_late : (G : Table) (is : List PlainInst) (n : ℕ) → ((b : ℕ) → ¬ (IsOfBlock is n b))
    → ¬ (IsEarlyUse G is n)
outside_late G is n none e = none e.block e.of

pub other_by : (is : List PlainInst) (n : ℕ) (i : PlainInst) → slice_get is n ≡ Some i → (i.opcode ≡ opcode.PHI → ⊥)
    → ¬ (IsOp is n is_phi)
other_by is n i there isnt op = isnt (eqb-true i.opcode opcode.PHI (op_tells is n i is_phi there op))

-- whether an instruction is of a block
pub of_block : (is : List PlainInst) (n : ℕ) (o : Option ℕ) (b : Bool) → b ≡ is_some o
    → MatchOption o ((k : ℕ) → ¬ (IsOfBlock is n k)) (λ k. IsOfBlock is n k)
    → MatchBool b ((k : ℕ) × IsOfBlock is n k) ((k : ℕ) → ¬ (IsOfBlock is n k))
of_block is n None b e h = rw e h
of_block is n (Some k) b e h = rw e (k, h)

pub not_past : (places : List Place) (n : ℕ) → n < length places → ¬ (slice_get places n ≡ None)
not_past [] n lt e = omega (arith, lt)
not_past (p ∷ places) zero lt e = cc
not_past (p ∷ places) (suc n) lt e = not_past places n (omega (arith, lt)) e

-- An operand that uses an id early, by what defines that.
pub later_by : (G : Table) (c : Code) (n x : ℕ) (o : Option ℕ) → IsLater (insts_of c) n x
    → MatchOption o ((d : ℕ) → ¬ (IsDefinedAt (insts_of c) x d)) (λ d. IsDefinedAt (insts_of c) x d)
    → MatchOption o (¬ (IsLater (insts_of c) n x)) (IsLaterBy (insts_of c) n x)
later_by G c n x None later none = absurd (none later.0.place later.0.defined)
later_by G c n x (Some d) later defined = (later, defined)

pub operand_by : (G : Table) (is : List PlainInst) (n k x : ℕ) (i : PlainInst) (o : Option ℕ) → slice_get is n ≡ Some i
    → (r : Role) × IsUse G i k x r → MatchOption o (¬ (IsLater is n x)) (IsLaterBy is n x)
    → MatchOption o (¬ (IsEarlyAt G is n k)) (IsEarlyAtBy G is n k)
operand_by G is n k x i (Some m) there (r, u) h =
    (record { id = x; role = r; used = use_at G is n k x r i there u; later = h.0 }, h.1)
operand_by G is n k x i None there (r, u) h = λ e.
    let same = one_id G is n k e.id x e.role r e.used (use_at G is n k x r i there u) in
    h (subst (λ (y : ℕ). IsLater is n y) same e.later)

-- the instruction that uses it, of which another operand does
pub use_by : (G H : Table) (c : Code) (n k m : ℕ) → IsCode G c → IsEarlyUse H (insts_of c) n
    → IsEarlyAtBy G (insts_of c) n k m → IsEarlyUseBy G (insts_of c) n k m
use_by G H c n k m is u (e, defined) =
    let early : IsEarlyUse G (insts_of c) n = record {
      block = u.block;
      of = u.of;
      other = u.other;
      operand = k;
      id = e.id;
      role = e.role;
      used = e.used;
      local = e.later.0;
      undefined = e.later.1;
    } in
    (early, refl, one_place G c e.id e.later.0.place m is e.later.0.defined defined)
