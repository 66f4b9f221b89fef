-- The turns of the loop over an instruction's operands.
use Rattle.std.proofs.Common.{◌≡◌, ◌++◌, ◌∙◌, ◌+◌, ◌-◌, ◌≤◌, ◌<◌, ℕ, List, [], ◌∷◌, None, Some, Bool, true}
use Rattle.std.proofs.Common.{false, nat_lt, suc, length, map, take, drop, refl, ap, arith}
use Rattle.std.proofs.lemmas.List.{drop-drop, take-append-drop, drop-take}
use Rattle.std.proofs.lemmas.Bool.Decides.{nat_tests}
use Rattle.spv_table.specs.Table.{Item, Table}
use Rattle.spv_module.specs.declared.operand.Operand as declared
use Rattle.spv_module.specs.declared.fault.Rule.{Rule}
use Rattle.spv_module.specs.Module.{plain_operand, plain_operands}
use Rattle.spv_module.specs.Operand.{PlainInst, Plain, Context, start, after, type_in}
use Rattle.spv_module.specs.Width.{first_id}
use Rattle.spv_module.specs.Shape.{Slot, alone}
use Rattle.spv_module.specs.Spelling.{Match}
use Rattle.spv_inst.specs.declared.definitions.Definitions.{Definitions}
use Rattle.spv_inst.specs.declared.reader.Known.{Known}
use Rattle.spv_inst.specs.inner.Known.{IsNear, Knows}
use Rattle.spv_inst.specs.Flat.{due, Due, OneOf, MaybeOf, ManyOf}
use Rattle.spv_inst.specs.inner.Reading.{between, parameter_kinds, TakesFront, RefusesFront}
use Rattle.spv_inst.specs.inner.Pending.{settled, Opens, opened_kinds}
use Rattle.spv_inst.proofs.Steps.{after_is}
use Rattle.spv_inst.proofs.Contexts.{near_after}
use Rattle.spv_inst.proofs.Turns.{opened_is, length-between, none_between}
use Rattle.spv_form_evidence.specs.words.Front.{Reaches}
use Rattle.spv_form_evidence.specs.words.inner.Failed.{Fails}
use Rattle.spv_form_evidence.proofs.lemmas.words.Reaching.{all_match}

-- what the loop keeps
pub record Way (G : Table) (defined : Definitions) (known : Known) (b : List PlainInst) (p : ℕ) (pattern : List Item)
    (image : List ℕ) (first at end : ℕ) (out : List Plain) (ds : List Due) : Type 0 where
  pub front : List ℕ
  pub reached : Reaches G (start b p) pattern (between image first end) out front ds (between image at end)
  pub near : IsNear defined known (after (start b p) out)

pub way_first : (G : Table) (defined : Definitions) (known : Known) (b : List PlainInst) (p : ℕ) (pattern : List Item)
    (image : List ℕ) (first end : ℕ) (ds : List Due)
    → known ≡ record { opcode = p; type_id = None; first = None } → Knows defined b → ds ≡ map due pattern
    → Way G defined known b p pattern image first first end [] ds
way_first G defined known b p pattern image first end ds e k f =
    rw (e, f) (record {
      front = [];
      reached = Reaches.begin;
      near = record {
        definitions = k;
        opcode = refl;
        type_id =
            refl;
        first = refl;
      };
    })

-- what is due, where words are left or not
reached_settled : (G : Table) (c : Context) (pattern : List Item) (words : List ℕ) (os : List Plain) (front : List ℕ)
    (ds : List Due) (left : List ℕ)
    → 0 < length left → Reaches G c pattern words os front ds left
    → Reaches G c pattern words os front (settled true ds) left
reached_settled G c pattern words os front ds [] h r = absurd (omega (arith, h))
reached_settled G c pattern words os front [] (u ∷ left) h r = r
reached_settled G c pattern words os front (OneOf s ∷ ds) (u ∷ left) h r = r
reached_settled G c pattern words os front (MaybeOf s ∷ ds) (u ∷ left) h r = Reaches.maybe os front s ds u left r
reached_settled G c pattern words os front (ManyOf s ∷ ds) (u ∷ left) h r = Reaches.many os front s ds u left r

reached_end : (G : Table) (c : Context) (pattern : List Item) (words : List ℕ) (os : List Plain) (front : List ℕ) (ds
    : List Due)
    → Reaches G c pattern words os front ds [] → Reaches G c pattern words os front (settled false ds) []
reached_end G c pattern words os front [] r = r
reached_end G c pattern words os front (OneOf s ∷ ds) r = r
reached_end G c pattern words os front (MaybeOf s ∷ ds) r = reached_end G c pattern words os front ds
    (Reaches.no_maybe os front s ds r)
reached_end G c pattern words os front (ManyOf s ∷ ds) r = reached_end G c pattern words os front ds (Reaches.no_many
    os front s ds r)

reached_by : (G : Table) (c : Context) (pattern : List Item) (words : List ℕ) (os : List Plain) (front : List ℕ) (ds :
    List Due) (image : List ℕ) (at end : ℕ) (more : Bool)
    → end ≤ length image → (more ≡ true → at < end) → (more ≡ false → end ≤ at)
    → Reaches G c pattern words os front ds (between image at end)
    → Reaches G c pattern words os front (settled more ds) (between image at end)
reached_by G c pattern words os front ds image at end true l some none r =
    let h = some refl in
    let b = length-between image at end l in
    let n : 0 < length (between image at end) = omega (arith, h, b) in
    reached_settled G c pattern words os front ds (between image at end) n r
reached_by G c pattern words os front ds image at end false l some none r =
    let e = none_between image at end (none refl) in
    rw e (reached_end G c pattern words os front ds (rw e at r))

lt_tells : (a b : ℕ) → nat_lt a b ≡ true → a < b
lt_tells a b h = grind (arith, nat_tests)

ge_tells : (a b : ℕ) → nat_lt a b ≡ false → b ≤ a
ge_tells a b h = grind (arith, nat_tests)

pub way_settled : (G : Table) (defined : Definitions) (known : Known) (b : List PlainInst) (p : ℕ) (pattern : List
    Item) (image : List ℕ) (first at end : ℕ) (out : List Plain) (ds es : List Due)
    → Way G defined known b p pattern image first at end out ds → end ≤ length image → settled (nat_lt at end) ds ≡ es
    → Way G defined known b p pattern image first at end out es
way_settled G defined known b p pattern image first at end out ds es w l e =
    record {
      front = w.front;
      reached = rw e at (reached_by G (start b p) pattern (between image first end) out w.front ds image at end
          (nat_lt at end) l (lt_tells at end) (ge_tells at end) w.reached);
      near = w.near;
    }

-- a Composite is opened
reached_opened : (G : Table) (c : Context) (pattern : List Item) (words : List ℕ) (os : List Plain) (front : List ℕ)
    (s : Slot) (ds es : List Due) (left : List ℕ)
    → Reaches G c pattern words os front (OneOf s ∷ ds) left → Opens G s ds es
    → Reaches G c pattern words os front es left
reached_opened G c pattern words os front s ds _ left r Opens.leaf = r
reached_opened G c pattern words os front s ds _ left r (Opens.parts ss h) = Reaches.parts os front s ds left ss r (h
    (after c os))

pub way_opened : (G : Table) (defined : Definitions) (known : Known) (b : List PlainInst) (p : ℕ) (pattern : List
    Item) (image : List ℕ) (first at end : ℕ) (out : List Plain) (s : Slot) (ds es : List Due)
    → Way G defined known b p pattern image first at end out (OneOf s ∷ ds) → Opens G s ds es
    → Way G defined known b p pattern image first at end out es
way_opened G defined known b p pattern image first at end out s ds es w h = record {
  front = w.front;
  reached = reached_opened G (start b p) pattern (between image first end) out w.front s ds es (between image at end)
      w.reached h;
  near = w.near;
}

-- one operand more
left_after : (ws : List ℕ) (at end n : ℕ) → n ≤ end - at → drop n (between ws at end) ≡ between ws (at + n) end
left_after ws at end n h =
    let e : end - at ≡ n + (end - (at + n)) = omega arith in
    let d : drop n (take (n + (end - (at + n))) (drop at ws)) ≡ take (end - (at + n)) (drop n (drop at ws)) =
    drop-take n (end - (at + n)) (drop at ws) in
    rw e (d ∙ ap (λ zs. take (end - (at + n)) zs) (drop-drop n at ws))

reached_taken : (G : Table) (c : Context) (pattern : List Item) (words : List ℕ) (os : List Plain) (front : List ℕ) (s
    : Slot) (ds : List Due) (left : List ℕ) (o : declared.Operand) (n : ℕ)
    → Reaches G c pattern words os front (OneOf s ∷ ds) left → TakesFront G (after c os) s o n left
    → Reaches G c pattern words (os ++ plain_operand o ∷ []) (front ++ take n left) (map OneOf (map alone
    (opened_kinds G (plain_operand o))) ++ ds) (drop n left)
reached_taken G c pattern words os front s ds left o n r t =
    let e = take-append-drop n left in
    let r' : Reaches G c pattern words os front (OneOf s ∷ ds) (take n left ++ drop n left) = rw e r in
    let p = opened_is G (after c os) s (plain_operand o) (take n left) (map alone (parameter_kinds G (plain_operand
    o))) t in
    rw p (Reaches.operand os front s ds (plain_operand o) (take n left) (drop n left) (map alone (parameter_kinds G
    (plain_operand o))) r' t)

near_next : (defined : Definitions) (known next : Known) (b : List PlainInst) (p : ℕ) (out : List Plain) (o : Plain) →
    IsNear defined known (after (start b p) out)
    → next.opcode ≡ known.opcode → (known.type_id ≡ type_in out → next.type_id ≡ type_in (out ++ (o ∷ [])))
    → (known.first ≡ first_id out → next.first ≡ first_id (out ++ (o ∷ [])))
    → IsNear defined next (after (start b p) (out ++ (o ∷ [])))
near_next defined known next b p out o k e t f =
    let n : IsNear defined known (record { before = b; opcode = p; operands = out }) = rw (after_is (start b p) out)
    at k in
    rw (after_is (start b p) (out ++ (o ∷ []))) (near_after defined known next _ o n e t f)

pub way_taken : (G : Table) (defined : Definitions) (known next : Known) (b : List PlainInst) (p : ℕ) (pattern : List
    Item) (image : List ℕ) (first at end : ℕ) (out out' : List Plain) (s : Slot) (ds es : List Due) (o :
    declared.Operand) (n : ℕ)
    → Way G defined known b p pattern image first at end out (OneOf s ∷ ds) → n ≤ end - at
    → TakesFront G (after (start b p) out) s o n (between image at end)
    → es ≡ map OneOf (map alone (opened_kinds G (plain_operand o))) ++ ds → out' ≡ out ++ (plain_operand o ∷ [])
    → next.opcode ≡ known.opcode → (known.type_id ≡ type_in out
    → next.type_id ≡ type_in (out ++ (plain_operand o ∷ [])))
    → (known.first ≡ first_id out → next.first ≡ first_id (out ++ (plain_operand o ∷ [])))
    → Way G defined next b p pattern image first (at + n) end out' es
way_taken G defined known next b p pattern image first at end out out' s ds es o n w h t d a oc ty fi =
    rw (d, a)
    (record {
      front = w.front ++ take n (between image at end);
      reached = rw (left_after image at end n h) at (reached_taken G (start b p) pattern (between image first end) out
          w.front s ds (between image at end) o n w.reached t);
      near = near_next defined known next b p out (plain_operand o) w.near oc ty fi;
    })

-- the operand that fails
pub count_plain : (os : List declared.Operand) → length (plain_operands os) ≡ length os
count_plain [] = refl
count_plain (o ∷ os) = ap suc (count_plain os)

pub way_refused : (G : Table) (defined : Definitions) (known : Known) (b : List PlainInst) (p : ℕ) (pattern : List
    Item) (image : List ℕ) (first at end : ℕ) (out : List declared.Operand) (s : Slot) (ds : List Due) (rule : Rule)
    (n k : ℕ)
    → Way G defined known b p pattern image first at end (plain_operands out) (OneOf s ∷ ds)
    → RefusesFront G (after (start b p) (plain_operands out)) s rule n (between image at end)
    → k ≡ length out → Fails G (start b p) pattern (between image first end) (record {
      operand = k;
      kind = Some s.kind;
    })
way_refused G defined known b p pattern image first at end out s ds rule n k w r e =
    rw (e, ← count_plain out) (Fails.refused (plain_operands out) w.front s ds (between image at end) rule n w.reached
    r)

reached_left : (G : Table) (c : Context) (pattern : List Item) (words : List ℕ) (os : List Plain) (front left : List
    ℕ) → 0 < length left → Reaches G c pattern words os front [] left
    → Fails G c pattern words (record { operand = length os; kind = None })
reached_left G c pattern words os front [] h r = absurd (omega (arith, h))
reached_left G c pattern words os front (u ∷ left) h r = Fails.left_over os front u left r

pub way_left : (G : Table) (defined : Definitions) (known : Known) (b : List PlainInst) (p : ℕ) (pattern : List Item)
    (image : List ℕ) (first at end : ℕ) (out : List declared.Operand) (k : ℕ)
    → Way G defined known b p pattern image first at end (plain_operands out) [] → at < end → end ≤ length image
    → k ≡ length out → Fails G (start b p) pattern (between image first end) (record { operand = k; kind = None })
way_left G defined known b p pattern image first at end out k w h l e =
    let b' = length-between image at end l in
    let n : 0 < length (between image at end) = omega (arith, h, b') in
    rw (e, ← count_plain out) (reached_left G (start b p) pattern (between image first end) (plain_operands out)
    w.front (between image at end) n w.reached)

pub way_end : (G : Table) (defined : Definitions) (known : Known) (b : List PlainInst) (p : ℕ) (pattern : List Item)
    (image : List ℕ) (first at end : ℕ) (out : List Plain)
    → Way G defined known b p pattern image first at end out [] → end ≤ at
    → Match G (start b p) pattern out (between image first end)
way_end G defined known b p pattern image first at end out w h =
    let e = none_between image at end h in
    all_match G (start b p) pattern (between image first end) out w.front (rw e at w.reached)
