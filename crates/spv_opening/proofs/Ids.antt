-- What breaks a rule on ids breaks it where the module is opened, too.
use Rattle.std.proofs.Common.{◌≡◌, ◌⊎◌, inl, inr, ℕ, List, map, sym, ◌∙◌}
use Rattle.spv_table.specs.Table.{Table}
use Rattle.spv_module.specs.Operand.{PlainInst}
use Rattle.spv_module.specs.declared.opcode.TheConstants as opcode
use Rattle.spv_module.specs.declared.fault.Rule.{Rule}
use Rattle.spv_extended.specs.declared.set.Set.{Set}
use Rattle.spv_extended.specs.Opened.{opened_inst}
use Rattle.spv_layout.specs.Place.{IsOfSection}
use Rattle.spv_ids.specs.Broken.{Broken}
use Rattle.spv_ids.specs.Order.{HasOpcode, Announces, IsInOrder, IsInScope}
use Rattle.spv_opening.proofs.Alike.{Alike, alike_opened, back, defined, other_at, same_at}
use Rattle.spv_opening.proofs.Spots.{section, of_function, local_to}
use Rattle.spv_opening.proofs.Uses.{used, mentioned}

pub has_opcode : (is js : List PlainInst) → Alike is js → (n code : ℕ) → HasOpcode is n code → HasOpcode js n code
has_opcode is js a n code h = let o = other_at is js a n h.inst h.there in
    record { inst = o.inst; there = o.there; same = sym o.looks.opcode ∙ h.same }

announces : (is js : List PlainInst) → Alike is js → (n x : ℕ) → Announces is n x → Announces js n x
announces is js a n x h = record {
  inst = h.inst;
  there = same_at is js a n h.inst h.there
      (λ e. let never : opcode.TYPE_FORWARD_POINTER ≡ opcode.EXT_INST = sym h.opcode ∙ e in cc);
  opcode = h.opcode;
  named = h.named;
}

in_order : (is js : List PlainInst) → Alike is js → (n x : ℕ) → IsInOrder is n x → IsInOrder js n x
in_order is js a n x (IsInOrder.lower m l d) = IsInOrder.lower m l (defined is js a x m d)
in_order is js a n x (IsInOrder.announced s h) =
    IsInOrder.announced (section is js a n 11 s) (has_opcode is js a n opcode.TYPE_FORWARD_POINTER h)
in_order is js a n x (IsInOrder.member m s h l p) =
    IsInOrder.member m (section is js a n 11 s) (has_opcode is js a n opcode.TYPE_STRUCT h) l (announces is js a m x p)

in_scope : (is js : List PlainInst) → Alike is js → (n x : ℕ) → IsInScope is n x → IsInScope js n x
in_scope is js a n x s =
    record {
      function = s.function;
      of = of_function is js a n s.function s.of;
      local = local_to is js a x s.function s.local;
    }

two_sections : (is js : List PlainInst) → Alike is js → (n k l : ℕ) → IsOfSection is n k ⊎ IsOfSection is n l
    → IsOfSection js n k ⊎ IsOfSection js n l
two_sections is js a n k l (inl s) = inl (section is js a n k s)
two_sections is js a n k l (inr s) = inr (section is js a n l s)

three_sections : (is js : List PlainInst) → Alike is js → (n k l m : ℕ)
    → IsOfSection is n k ⊎ IsOfSection is n l ⊎ IsOfSection is n m
    → IsOfSection js n k ⊎ IsOfSection js n l ⊎ IsOfSection js n m
three_sections is js a n k l m (inl s) = inl (section is js a n k s)
three_sections is js a n k l m (inr s) = inr (two_sections is js a n l m s)

pub ids_broken : (G : Table) (bound : ℕ) (sets : ℕ → Set) (is : List PlainInst) (r : Rule) (n : ℕ)
    → Broken G bound is r n → Broken G bound (map (opened_inst sets) is) r n
ids_broken G bound sets is _ _ (Broken.result_out_of_range n x d o) =
    let a = alike_opened sets is in Broken.result_out_of_range n x (defined is (map (opened_inst sets) is) a x n d) o
ids_broken G bound sets is _ _ (Broken.use_out_of_range n k x r u o) =
    Broken.use_out_of_range n k x r (used G sets is n k x r u) o
ids_broken G bound sets is _ _ (Broken.defined_again n m x d l e) =
    let a = alike_opened sets is in
    let js = map (opened_inst sets) is in
    Broken.defined_again n m x (defined is js a x n d) l (defined is js a x m e)
ids_broken G bound sets is _ _ (Broken.undefined n k x r u never) =
    let js = map (opened_inst sets) is in
    let b = back is js (alike_opened sets is) in
    Broken.undefined n k x r (used G sets is n k x r u) (λ m d. never m (defined js is b x m d))
ids_broken G bound sets is _ _ (Broken.not_in_order n k x r u s never) =
    let js = map (opened_inst sets) is in
    let a = alike_opened sets is in
    Broken.not_in_order n k x r (used G sets is n k x r u) (two_sections is js a n 7 11 s)
    (λ o. never (in_order js is (back is js a) n x o))
ids_broken G bound sets is _ _ (Broken.not_in_scope n k x r u s (f, l) never) =
    let js = map (opened_inst sets) is in
    let a = alike_opened sets is in
    Broken.not_in_scope n k x r (used G sets is n k x r u) (three_sections is js a n 11 12 13 s)
    (f, local_to is js a x f l) (λ o. never (in_scope js is (back is js a) n x o))
ids_broken G bound sets is _ _ (Broken.mention_out_of_range n k x m o) =
    Broken.mention_out_of_range n k x (mentioned sets is n k x m) o
ids_broken G bound sets is _ _ (Broken.mention_undefined n k x m never) =
    let js = map (opened_inst sets) is in
    let b = back is js (alike_opened sets is) in
    Broken.mention_undefined n k x (mentioned sets is n k x m) (λ p d. never p (defined js is b x p d))
