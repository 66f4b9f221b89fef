-- The list of instructions so far, and the rest of the words.
use Rattle.std.proofs.Common.{◌≡◌, ◌++◌, ◌+◌, ◌-◌, ◌≤◌, ◌<◌, ℕ, suc, List, [], ◌∷◌, length, map, drop, refl, sym, ap}
use Rattle.std.proofs.Common.{arith, append_assoc, append-nil, length-append}
use Rattle.std.proofs.lemmas.List.{drop-drop, take-append-drop}
use Rattle.std.proofs.Math.ListN.{drop_of_length-le}
use Rattle.spv_table.specs.Table.{Table}
use Rattle.spv_module.specs.declared.fault.Rule.{Rule}
use Rattle.spv_module.specs.declared.fault.Stop.{Stop}
use Rattle.spv_module.specs.declared.fault.Stop.TheVariants.{Fault, Memory}
use Rattle.spv_module.specs.declared.module.Inst.{Inst}
use Rattle.spv_module.specs.Module.{plain_inst}
use Rattle.spv_module.specs.Operand.{PlainInst}
use Rattle.spv_module.specs.Instruction.{IsInstruction, Listing, IsListing}
use Rattle.spv_module.specs.Malformed.{FailsAt}
use Rattle.spv_inst.specs.inner.Reading.{between}
use Rattle.spv_inst.specs.Outcome.{IsDecodeFault, HasNoList}
use Rattle.spv_inst.specs.inner.Step.{IsDeadFrom}
use Rattle.spv_inst.proofs.Turns.{length-between}
use Rattle.spv_inst.proofs.Lists.{listing_same, dies_not}

-- What the list so far makes of what comes after it.
pub record SofarListed (G : Table) (words : List ℕ) (insts : List PlainInst) (at : ℕ) : Type 0 where
  pub after_header : 5 ≤ at
  pub upto : at ≤ length words
  pub short : length insts + 5 ≤ at
  pub listed : (is : List PlainInst) → Listing G insts is (drop at words) → Listing G [] (insts ++ is) (drop 5 words)
  pub dies : (a : Rule) (k n : ℕ) → FailsAt G insts (drop at words) a k n
      → FailsAt G [] (drop 5 words) a (length insts + k) ((at - 5) + n)

pub listed_first : (G : Table) (words : List ℕ) → 5 ≤ length words → SofarListed G words [] 5
listed_first G words h = record {
  after_header = omega arith;
  upto = h;
  short = omega arith;
  listed = λ is m. m;
  dies = λ a k n d.
      let e : 0 + k ≡ k = omega arith in
      let f : (5 - 5) + n ≡ n = omega arith in
      rw (e, f) d;
}

rest_is : (words : List ℕ) (at end : ℕ) → at ≤ end → drop at words ≡ between words at end ++ drop end words
rest_is words at end h =
    let e : at + (end - at) ≡ end = omega arith in
    let d : drop (end - at) (drop at words) ≡ drop end words = rw e at (drop-drop (end - at) at words) in
    rw (← d) (sym (take-append-drop (end - at) (drop at words)))

moved : (G : Table) (insts : List PlainInst) (us vs : List ℕ) (c : Rule) (j n : ℕ) → us ≡ vs → FailsAt G insts us c j n
    → FailsAt G insts vs c j n
moved G insts us vs c j n e d = rw e at d

pub listed_next : (G : Table) (words : List ℕ) (insts next : List PlainInst) (i : PlainInst) (at end : ℕ)
    → SofarListed G words insts at
    → at < end → end ≤ length words → IsInstruction G insts i (between words at end) → next ≡ insts ++ (i ∷ [])
    → SofarListed G words next end
listed_next G words insts next i at end k h f a e =
    let x = k.after_header in
    let y = k.short in
    let o : at ≤ end = omega arith in
    let r = rest_is words at end o in
    let l = length-append insts (i ∷ []) in
    let lb = length-between words at end f in
    rw e
    (record {
      after_header = omega arith;
      upto = f;
      short = omega arith;
      listed = λ is m.
          rw (append_assoc insts (i ∷ []) is)
          (k.listed (i ∷ is) (rw r (Listing.more insts i is (between words at end) (drop end words) a m)));
      dies = λ c j n d.
          let d0 : FailsAt G insts (between words at end ++ drop end words) c (suc j)
          (length (between words at end) + n) =
          FailsAt.later insts i (between words at end) (drop end words) c j n a d in
          let d' : FailsAt G insts (drop at words) c (suc j) (length (between words at end) + n) = moved G insts
          (between words at end ++ drop end words) (drop at words) c (suc j) (length (between words at end) + n)
          (sym r) d0 in
          let p : length insts + suc j ≡ length (insts ++ (i ∷ [])) + j = omega arith in
          let q : (at - 5) + (length (between words at end) + n) ≡ (end - 5) + n = omega arith in
          rw (p, q) at (k.dies c (suc j) (length (between words at end) + n) d');
    })

pub listed_all : (G : Table) (words : List ℕ) (insts : List PlainInst) (at : ℕ) → SofarListed G words insts at
    → length words ≤ at → IsListing G insts (drop 5 words)
listed_all G words insts at k h =
    let e : drop at words ≡ [] = drop_of_length-le words h in
    rw append-nil at (k.listed [] (rw e (Listing.end insts)))

pub listed_only : (G : Table) (words : List ℕ) (insts is : List PlainInst) → IsListing G insts (drop 5 words)
    → IsListing G is (drop 5 words) → is ≡ insts
listed_only G words insts is a b = listing_same G [] is insts (drop 5 words) (drop 5 words) b a refl

pub dead_here : (G : Table) (words : List ℕ) (insts : List PlainInst) (at number : ℕ) (e : Stop)
    → SofarListed G words insts at → number ≡ length insts → IsDeadFrom G insts words number at e
    → IsDecodeFault G words e
dead_here G words insts at number Memory k h d = tt
dead_here G words insts at number (Fault f) k h d =
    let x = k.after_header in
    let y = d.1 in
    let z = d.0 in
    let p : length insts + 0 ≡ f.inst = omega arith in
    let q : (at - 5) + (f.word - at) ≡ f.word - 5 = omega arith in (
      omega arith,
      rw (p, q) at (k.dies f.rule 0 (f.word - at)
          (FailsAt.here insts (drop at words) f.rule (f.word - at) d.2)),
    )

pub none_there : (G : Table) (words : List ℕ) (e : Stop) → IsDecodeFault G words e → HasNoList G words e
none_there G words Memory d = tt
none_there G words (Fault f) d =
    λ is m. dies_not G [] is (drop 5 words) (drop 5 words) f.rule f.inst (f.word - 5) d.1 m refl

pub plain-insts-push : (is js : List Inst) (i : Inst) → js ≡ is ++ (i ∷ [])
    → map plain_inst js ≡ map plain_inst is ++ (plain_inst i ∷ [])
plain-insts-push is js i e = rw e (pushed is)
  where
    pushed : (is : List Inst) → map plain_inst (is ++ (i ∷ [])) ≡ map plain_inst is ++ (plain_inst i ∷ [])
    pushed [] = refl
    pushed (j ∷ js) = ap (λ zs. plain_inst j ∷ zs) (pushed js)

pub length-plain-insts : (is : List Inst) → length (map plain_inst is) ≡ length is
length-plain-insts [] = refl
length-plain-insts (i ∷ is) = ap suc (length-plain-insts is)
