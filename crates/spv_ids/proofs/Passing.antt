-- Instructions that are passed: their uses are sound, and they announce no id.
use Rattle.std.proofs.Common.{◌≡◌, ◌<◌, ◌≤◌, ◌+◌, ℕ, List, refl, sym, Some, None, length, map, arith, get_or}
use Rattle.std.specs.Prelude.{slice_get}
use Rattle.std.proofs.lemmas.List.{length-map}
use Rattle.spv_module.specs.declared.module.Inst.{Inst}
use Rattle.spv_module.specs.declared.operand.Operand.{Operand}
use Rattle.spv_module.specs.declared.fault.Rule.{Rule}
use Rattle.spv_module.specs.Operand.{PlainInst}
use Rattle.spv_module.specs.Module.{plain_inst, plain_operand}
use Rattle.spv_module.specs.declared.opcode.TheConstants as opcode
use Rattle.spv_ids.specs.declared.notes.Notes.{Notes}
use Rattle.spv_ids.specs.declared.survey.Survey.{Survey}
use Rattle.spv_ids.specs.Order.{Announces}
use Rattle.spv_ids.specs.inner.Known.{AreAnnounced, IsOpen}
use Rattle.spv_ids.specs.inner.Uses.{seen, AreSeen}
use Rattle.spv_layout.specs.Place.{IsOfFunction}
use Rattle.spv_ids.specs.inner.Notes.{kept}
use Rattle.spv_ids.specs.inner.Faulty.{IsBadUse, HasBadUse, IsFaulty, IsLeast, AreClean}
use Rattle.spv_ids.specs.inner.Survey.{IsSurvey, insts_of}
use Rattle.spv_ids.proofs.Defining.{same_inst, inst_at}
use Rattle.spv_ids.proofs.Leasts.{least_at}
use Rattle.spv_ids.proofs.Behind.{none_behind}
use Rattle.spv_ids.proofs.Broke.{clean_here}
use Rattle.spv_ids.proofs.Opens.{goes_on, stays_open, unordered}
use Rattle.spv_ids.proofs.Scopes.{sound_use, sound_here}

-- an opcode above that of OpFunctionEnd
above : (o m : ℕ) → 56 < o → m ≤ 56 → o ≡ m → ⊥
above o m g l e = omega arith

-- an instruction of the survey
pub inst_of : (s : Survey) (n : ℕ) (d : Inst) → IsSurvey s → n < s.end
    → slice_get (insts_of s) n ≡ Some (plain_inst (get_or s.insts.now n d))
inst_of s n d v b =
    let w = v.within in
    let m = length-map s.insts.now plain_inst in
    let l : n < length s.insts.now = omega arith in
    inst_at s.insts.now n d l

-- an instruction of another opcode announces no id
pub not_announced : (is : List PlainInst) (n : ℕ) (i : PlainInst) → slice_get is n ≡ Some i
    → (i.opcode ≡ opcode.TYPE_FORWARD_POINTER → ⊥) → (x : ℕ) → ¬ (Announces is n x)
not_announced is n i h k x a =
    let e : a.inst ≡ i = same_inst is n a.inst i a.there h in
    let o = rw e at a.opcode in
    k o

-- no rule is broken at an instruction, but an OpExtInst, whose uses are sound
pub clean_at : (s : Survey) (n : ℕ) (i : PlainInst) (os : List Operand) → IsSurvey s → n < s.end
    → slice_get (insts_of s) n ≡ Some i → (i.opcode ≡ opcode.EXT_INST → ⊥) → map plain_operand os ≡ seen i
    → IsLeast (HasBadUse s.bound (insts_of s) n (length os)) None → (q : Rule) → ¬ (IsFaulty s.bound (insts_of s) n q)
clean_at s n i os v b t x e h =
    let a : AreSeen (insts_of s) n (map plain_operand os) = record { inst = i; there = t; same = e } in
    let k : length os ≡ length (map plain_operand os) = sym (length-map os plain_operand) in
    clean_here s.bound (insts_of s) n s.end s.firsts.now (map plain_operand os) v.firsts b a
    (least_at s.bound (insts_of s) n n (length os) (length (map plain_operand os)) None None refl k refl h)
    (λ to q. none_behind s.bound (insts_of s) n i to q t x)

pub clean_moved : (bound : ℕ) (is : List PlainInst) (m n : ℕ) → m ≡ n → AreClean bound is m → AreClean bound is n
clean_moved bound is m n e h = rw (← e) h

pub announced_moved : (is : List PlainInst) (m n : ℕ) (a : Notes) → m ≡ n → AreAnnounced is m a → AreAnnounced is n a
announced_moved is m n a e h = rw (← e) h

pub open_moved : (is : List PlainInst) (m n f : ℕ) → m ≡ n → IsOpen is m f → IsOpen is n f
open_moved is m n f e h = rw (← e) h

-- a use by an instruction of a function, whose definition is the next one
pub sound_next : (s : Survey) (n x m f : ℕ) (i j : PlainInst) → IsSurvey s → m ≡ n + 1
    → slice_get (insts_of s) n ≡ Some i → slice_get (insts_of s) m ≡ Some j → opcode.FUNCTION_END < i.opcode
    → opcode.FUNCTION_END < j.opcode
    → IsOfFunction (insts_of s) n f → kept s.firsts.now x ≡ Some m → (q : Rule)
    → ¬ (IsBadUse s.bound (insts_of s) n x q)
sound_next s n x m f i j v a t u g h o e q =
    let is = insts_of s in
    let p = stays_open is n f i t (above i.opcode opcode.FUNCTION_END g (omega arith)) o in
    let r = goes_on is m f j u (above j.opcode opcode.FUNCTION h (omega arith)) (open_moved is (n + 1) m f (sym a) p) in
    let l = o.begun.up_to in
    let k : f < m = omega arith in
    let z : 7 < i.opcode = omega arith in
    sound_use s n x m v e (λ w. unordered is n f i t z o w) (λ w y. sound_here s n x m f v e k r o) q
