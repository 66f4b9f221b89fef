-- Words that the front of a pattern takes are operands of the pattern.
use Rattle.std.proofs.Common.{◌≡◌, ◌++◌, ◌∙◌, ◌+◌, ◌-◌, ◌<◌, ◌≤◌, ◌&&◌, ◌||◌, ℕ, suc, List, [], ◌∷◌, ◌≢◌, Option, Some}
use Rattle.std.proofs.Common.{None, Bool, true, false, nat_eq, nat_le, nat_lt, min, if◌then◌else◌, length, map, take}
use Rattle.std.proofs.Common.{drop, slice_index, refl, sym, ap, arith, length-append}
use Rattle.std.proofs.lemmas.List.{take-append-le, drop-append-le, take_all}
use Rattle.std.proofs.Math.ListN.{drop_of_length-le}
use Rattle.std.proofs.lemmas.Bool.Decides.{nat_tests}
use Rattle.spv_table.specs.declared.table.Entry.{Entry}
use Rattle.spv_table.specs.declared.form.Leaf.TheVariants as leaf
use Rattle.spv_table.specs.declared.form.Form.{Form}
use Rattle.spv_table.specs.declared.form.Form.TheVariants.{Leaf}
use Rattle.spv_table.specs.declared.front.Head.{Head}
use Rattle.spv_table.specs.declared.front.Head.TheVariants as head
use Rattle.spv_table.specs.declared.front.Front.{Front}
use Rattle.spv_table.specs.Table.{Table, Item, One, Maybe, Many, kind_of, entry_of, pattern_of}
use Rattle.spv_table.specs.inner.Form.{form_at}
use Rattle.spv_table.specs.inner.Results.{is_result_form, is_result_kind}
use Rattle.spv_table.specs.inner.Front.{is_id_form, is_id_kind, is_type_form, is_type_kind, one_more, ids_in}
use Rattle.spv_table.specs.inner.Front.{begin_with_result, begin_with_both, head_in, head_len, no_front, front_with}
use Rattle.spv_table.specs.inner.Front.{front_of, is_taken, entry_front, front_at}
use Rattle.spv_module.specs.declared.operand.Operand as code
use Rattle.spv_module.specs.Module.{plain_operands}
use Rattle.spv_module.specs.Operand.{Plain, OfType, Result, Id, Context, and_then, PlainInst, start}
use Rattle.spv_module.specs.Shape.{alone, shape_of}
use Rattle.spv_module.specs.Spelling.{Takes}
use Rattle.spv_module.specs.Instruction.{IsInstruction}
use Rattle.spv_inst.specs.Flat.{OneOf, MaybeOf, ManyOf, due}
use Rattle.spv_inst.specs.inner.Flat.{Matches}
use Rattle.spv_inst.specs.inner.Front.{head_operands, id_operands}
use Rattle.spv_inst.specs.inner.Reading.{between}
use Rattle.spv_inst.proofs.Between.{front}
use Rattle.spv_inst.proofs.Instructions as places
use Rattle.spv_inst.proofs.Instructions.{is_instruction}
use Rattle.spv_inst.proofs.Joined.{flat_match}
use Rattle.spv_inst.proofs.Shapes.{shape_leaf}
use Rattle.spv_inst.proofs.Turns.{length-between}

-- a kind of an id, of a result or of its type takes one word
id_form : (f : Form) → is_id_form f ≡ true → f ≡ Leaf leaf.Id
id_form (Leaf leaf.Id) h = refl
id_form _ h = cc

result_form : (f : Form) → is_result_form f ≡ true → f ≡ Leaf leaf.Result
result_form (Leaf leaf.Result) h = refl
result_form _ h = cc

type_form : (f : Form) → is_type_form f ≡ true → f ≡ Leaf leaf.ResultType
type_form (Leaf leaf.ResultType) h = refl
type_form _ h = cc

id_takes : (G : Table) (c : Context) (k w : ℕ) → is_id_kind G k ≡ true
    → Takes k (shape_of G c (alone k)) (Id w) (w ∷ []) []
id_takes G c k w h = rw (shape_leaf G c (alone k) leaf.Id leaf.Id (id_form (form_at (kind_of G k)) h) refl) (Takes.id w)

result_takes : (G : Table) (c : Context) (k w : ℕ) → is_result_kind G k ≡ true
    → Takes k (shape_of G c (alone k)) (Result w) (w ∷ []) []
result_takes G c k w h =
    rw (shape_leaf G c (alone k) leaf.Result leaf.Result (result_form (form_at (kind_of G k)) h) refl) (Takes.result w)

type_takes : (G : Table) (c : Context) (k w : ℕ) → is_type_kind G k ≡ true
    → Takes k (shape_of G c (alone k)) (OfType w) (w ∷ []) []
type_takes G c k w h =
    rw (shape_leaf G c (alone k) leaf.ResultType leaf.ResultType (type_form (form_at (kind_of G k)) h) refl)
    (Takes.result_type w)

-- words as ids
abbrev ids : List ℕ → List Plain
ids ws = map Id ws

-- what items take as ids
abbrev AreIds : Table → List Item → ℕ → Bool → ℕ → Type 0
AreIds G is singles repeated least =
    (c : Context) (ws : List ℕ) → least < 255 → least ≤ length ws → (repeated ≡ false → length ws ≤ singles)
    → Matches G c (map due is) (ids ws) ws

module _ (G : Table) (k : ℕ) (is : List Item) (singles : ℕ) (repeated : Bool) (least : ℕ)
    (next : AreIds G is singles repeated least) where
  one_ids : (b : Bool) → is_id_kind G k ≡ b → (c : Context) (ws : List ℕ) → one_more least < 255
      → one_more least ≤ length ws
      → (b && repeated ≡ false → length ws ≤ (if b then one_more singles else 0))
      → Matches G c (OneOf (alone k) ∷ map due is) (ids ws) ws
  one_ids b e c [] l s m = absurd (omega arith)
  one_ids true e c (w ∷ ws) l s m =
      Matches.take c (alone k) (map due is) (Id w) (w ∷ []) [] (ids ws) ws (id_takes G c k w e)
      (next (and_then c (Id w)) ws (omega (arith, l)) (omega (arith, l, s)) (λ r. let n = m r in omega (arith, n)))
  one_ids false e c (w ∷ ws) l s m = let n = m refl in absurd (omega (arith, n))

  least_maybe : (b : Bool) (n : ℕ) → nat_eq least 0 ≡ b → (if b then 0 else one_more least) < 255
      → (if b then 0 else one_more least) ≤ n
      → (least < 255) × (least ≤ n - 1)
  least_maybe true n e l s = let z : least ≡ 0 = grind (arith, nat_tests) in (omega (arith, z), omega (arith, z))
  least_maybe false n e l s = (omega (arith, l), omega (arith, l, s))

  maybe_ids : (b : Bool) → is_id_kind G k ≡ b → (c : Context) (ws : List ℕ)
      → (if nat_eq least 0 then 0 else one_more least) < 255
      → (if nat_eq least 0 then 0 else one_more least) ≤ length ws
      → (b && repeated ≡ false → length ws ≤ (if b then one_more singles else 0))
      → Matches G c (MaybeOf (alone k) ∷ map due is) (ids ws) ws
  maybe_ids b e c [] l s m =
      let h = least_maybe (nat_eq least 0) 0 refl l s in
      Matches.no_maybe c (alone k) (map due is) [] (next c [] h.0 (omega (arith, h.1)) (λ r. omega arith))
  maybe_ids true e c (w ∷ ws) l s m =
      let h = least_maybe (nat_eq least 0) (length (w ∷ ws)) refl l s in
      let t = h.1 in
      Matches.maybe c (alone k) (map due is) (Id w ∷ ids ws) w ws
      (Matches.take c (alone k) (map due is) (Id w) (w ∷ []) [] (ids ws) ws (id_takes G c k w e)
      (next (and_then c (Id w)) ws h.0 (omega (arith, t)) (λ r. let n = m r in omega (arith, n))))
  maybe_ids false e c (w ∷ ws) l s m = let n = m refl in absurd (omega (arith, n))

  least_many : (b : Bool) → nat_eq least 0 ≡ b → (if b then 0 else 255) < 255 → least ≡ 0
  least_many true e l = grind (arith, nat_tests)
  least_many false e l = absurd (omega (arith, l))

  run_ids : is_id_kind G k ≡ true → least ≡ 0 → (c : Context) (ws : List ℕ)
      → Matches G c (ManyOf (alone k) ∷ map due is) (ids ws) ws
  run_ids e z c [] = Matches.no_many c (alone k) (map due is) []
      (next c [] (omega (arith, z)) (omega (arith, z)) (λ r. omega arith))
  run_ids e z c (w ∷ ws) =
      Matches.many c (alone k) (map due is) (Id w ∷ ids ws) w ws
      (Matches.take c (alone k) (ManyOf (alone k) ∷ map due is) (Id w) (w ∷ []) [] (ids ws) ws (id_takes G c k w e)
      (run_ids e z (and_then c (Id w)) ws))

  many_ids : (b : Bool) → is_id_kind G k ≡ b → (c : Context) (ws : List ℕ) → (if nat_eq least 0 then 0 else 255) < 255
      → (b ≡ false → length ws ≤ 0) → Matches G c (ManyOf (alone k) ∷ map due is) (ids ws) ws
  many_ids true e c ws l m = run_ids e (least_many (nat_eq least 0) refl l) c ws
  many_ids false e c [] l m =
      let z = least_many (nat_eq least 0) refl l in
      Matches.no_many c (alone k) (map due is) [] (next c [] (omega (arith, z)) (omega (arith, z)) (λ r. omega arith))
  many_ids false e c (w ∷ ws) l m = let n = m refl in absurd (omega (arith, n))

-- items take words as ids
ids_match : (G : Table) (is : List Item) → AreIds G is (ids_in G is).singles (ids_in G is).repeated (ids_in G is).least
ids_match G [] c [] l s m = Matches.end c
ids_match G [] c (w ∷ ws) l s m = let n = m refl in absurd (omega (arith, n))
ids_match G (One k ∷ is) c ws l s m =
    one_ids G k is (ids_in G is).singles (ids_in G is).repeated (ids_in G is).least (ids_match G is)
    (is_id_kind G k) refl c ws l s m
ids_match G (Maybe k ∷ is) c ws l s m =
    maybe_ids G k is (ids_in G is).singles (ids_in G is).repeated (ids_in G is).least (ids_match G is)
    (is_id_kind G k) refl c ws l s m
ids_match G (Many k ∷ is) c ws l s m =
    many_ids G k is (ids_in G is).singles (ids_in G is).repeated (ids_in G is).least (ids_match G is)
    (is_id_kind G k) refl c ws l m

-- a head, and then ids
abbrev told : Head → List ℕ → List Plain
told head.Nothing ws = ids ws
told head.Result (w ∷ ws) = Result w ∷ ids ws
told head.TypeAndResult (v ∷ w ∷ ws) = OfType v ∷ Result w ∷ ids ws
told _ _ = []

-- how many words a head and what is behind it take
record Fits (G : Table) (h : Head) (is : List Item) (n : ℕ) : Type 0 where
  small : (ids_in G is).least + head_len h < 255
  some : (ids_in G is).least + head_len h ≤ n
  most : (ids_in G is).repeated ≡ false → n ≤ (ids_in G is).singles + head_len h

and_both : (a b : Bool) → a && b ≡ true → (a ≡ true) × (b ≡ true)
and_both true b e = (refl, e)
and_both false b e = cc

module _ (G : Table) where
  after_result : (is : List Item) (c : Context) (ws : List ℕ) → begin_with_result G is ≡ true
      → Fits G head.Result (drop 1 is) (length ws)
      → Matches G c (map due is) (told head.Result ws) ws
  after_result [] c ws e f = cc
  after_result (Maybe k ∷ is) c ws e f = cc
  after_result (Many k ∷ is) c ws e f = cc
  after_result (One k ∷ is) c [] e f = let s = f.some in absurd (omega (arith, s))
  after_result (One k ∷ is) c (w ∷ ws) e f =
      let l = f.small in
      let s = f.some in
      Matches.take c (alone k) (map due is) (Result w) (w ∷ []) [] (ids ws) ws (result_takes G c k w e)
      (ids_match G is (and_then c (Result w)) ws (omega (arith, l)) (omega (arith, s))
      (λ r. let m = f.most r in omega (arith, m)))

  after_both : (is : List Item) (c : Context) (ws : List ℕ) → begin_with_both G is ≡ true
      → Fits G head.TypeAndResult (drop 2 is) (length ws)
      → Matches G c (map due is) (told head.TypeAndResult ws) ws
  after_both [] c ws e f = cc
  after_both (Maybe k ∷ is) c ws e f = cc
  after_both (Many k ∷ is) c ws e f = cc
  after_both (One j ∷ is) c [] e f = let s = f.some in absurd (omega (arith, s))
  after_both (One j ∷ is) c (v ∷ []) e f = let s = f.some in absurd (omega (arith, s))
  after_both (One j ∷ []) c (v ∷ w ∷ ws) e f = let g = (and_both (is_type_kind G j) false e).1 in cc
  after_both (One j ∷ Maybe k ∷ is) c (v ∷ w ∷ ws) e f = let g = (and_both (is_type_kind G j) false e).1 in cc
  after_both (One j ∷ Many k ∷ is) c (v ∷ w ∷ ws) e f = let g = (and_both (is_type_kind G j) false e).1 in cc
  after_both (One j ∷ One k ∷ is) c (v ∷ w ∷ ws) e f =
      let l = f.small in
      let s = f.some in
      let g = and_both (is_type_kind G j) (is_result_kind G k) e in
      let d = and_then c (OfType v) in
      Matches.take c (alone j) (OneOf (alone k) ∷ map due is) (OfType v) (v ∷ []) [] (Result w ∷ ids ws) (w ∷ ws)
      (type_takes G c j v g.0)
      (Matches.take d (alone k) (map due is) (Result w) (w ∷ []) [] (ids ws) ws (result_takes G d k w g.1)
      (ids_match G is (and_then d (Result w)) ws (omega (arith, l)) (omega (arith, s))
      (λ r. let m = f.most r in omega (arith, m))))

  after_nothing : (is : List Item) (c : Context) (ws : List ℕ) → Fits G head.Nothing is (length ws)
      → Matches G c (map due is) (told head.Nothing ws) ws
  after_nothing is c ws f =
      let l = f.small in
      let s = f.some in
      ids_match G is c ws (omega (arith, l)) (omega (arith, s)) (λ r. let m = f.most r in omega (arith, m))

  abbrev head_by : Bool → Bool → Head
  head_by a b = if a then head.Result else (if b then head.TypeAndResult else head.Nothing)

  after_head : (is : List Item) (c : Context) (ws : List ℕ) (a b : Bool) → begin_with_result G is ≡ a
      → begin_with_both G is ≡ b
      → Fits G (head_by a b) (drop (head_len (head_by a b)) is) (length ws)
      → Matches G c (map due is) (told (head_by a b) ws) ws
  after_head is c ws true b e g f = after_result is c ws e f
  after_head is c ws false true e g f = after_both is c ws g f
  after_head is c ws false false e g f = after_nothing is c ws f

-- what a front that takes so many operands has
record Taken (G : Table) (f : Front) (h : Head) (is : List Item) (n : ℕ) : Type 0 where
  same : f.head ≡ h
  fits : Fits G h is n

none_taken : (n : ℕ) → is_taken no_front n ≡ true → ⊥
none_taken n e =
    let b = and_both (nat_le 255 n) (nat_le n 0) e in
    let x = b.0 in
    let y = b.1 in
    let p : 255 ≤ n = grind (arith, nat_tests) in
    let q : n ≤ 0 = grind (arith, nat_tests) in
    omega (arith, p, q)

-- what a front is made of
abbrev front_made : Bool → Head → ℕ → Bool → ℕ → Front
front_made b h singles repeated least =
    if b then no_front else record { head = h; singles = singles; repeated = repeated; least = least }

module _ (G : Table) (h : Head) (is : List Item) (n : ℕ) where
  abbrev most_singles : ℕ
  most_singles = min ((ids_in G is).singles + head_len h) 255

  abbrev least_all : ℕ
  least_all = min ((ids_in G is).least + head_len h) 255

  taken_by : (b : Bool) → nat_eq least_all 255 ≡ b
      → is_taken (front_made b h most_singles (ids_in G is).repeated least_all) n ≡ true
      → Taken G (front_made b h most_singles (ids_in G is).repeated least_all) h is n
  taken_by true t u = absurd (none_taken n u)
  taken_by false t u =
      let p = and_both (nat_le least_all n) ((ids_in G is).repeated || nat_le n most_singles) u in
      let p0 = p.0 in
      let l : least_all ≢ 255 = grind (arith, nat_tests) in
      let s : least_all ≤ n = grind (arith, nat_tests) in
      record {
        same = refl;
        fits = record {
          small = omega (arith, l);
          some = omega (arith, l, s);
          most = λ r.
              let q : nat_le n most_singles ≡ true = rw r at p.1 in
              let m : n ≤ most_singles = grind (arith, nat_tests) in
              omega (arith, m);
        };
      }

  taken_with : is_taken (front_with h (ids_in G is)) n ≡ true → Taken G (front_with h (ids_in G is)) h is n
  taken_with u = taken_by (nat_eq least_all 255) refl u

taken_front : (G : Table) (is : List Item) (c : Context) (ws : List ℕ) → is_taken (front_of G is) (length ws) ≡ true
    → Matches G c (map due is) (told (front_of G is).head ws) ws
taken_front G is c ws e =
    let t = taken_with G (head_in G is) (drop (head_len (head_in G is)) is) (length ws) e in
    rw t.same (after_head G is c ws (begin_with_result G is) (begin_with_both G is) refl refl t.fits)

-- an opcode whose front takes operands has an entry
pub record Known (G : Table) (opcode n : ℕ) : Type 0 where
  pub entry : Entry
  pub known : entry_of G opcode ≡ Some entry
  pub front : front_at G opcode ≡ front_of G (pattern_of entry)

known_entry : (G : Table) (opcode n : ℕ) (o : Option Entry) → entry_of G opcode ≡ o
    → front_at G opcode ≡ entry_front G o
    → is_taken (entry_front G o) n ≡ true → Known G opcode n
known_entry G opcode n None e f t = absurd (none_taken n t)
known_entry G opcode n (Some x) e f t = record { entry = x; known = e; front = f }

pub front_known : (G : Table) (opcode n : ℕ) → is_taken (front_at G opcode) n ≡ true → Known G opcode n
front_known G opcode n t = by (nat_lt opcode 331) refl
  where
    by : (b : Bool) → nat_lt opcode 331 ≡ b → Known G opcode n
    by true e =
        let f : front_at G opcode ≡ entry_front G (entry_of G opcode) = rw e refl in
        known_entry G opcode n (entry_of G opcode) refl f (rw f at t)
    by false e =
        let f : front_at G opcode ≡ no_front = rw e refl in
        absurd (none_taken n (rw f at t))

plain_ids : (ws : List ℕ) → plain_operands (id_operands ws) ≡ ids ws
plain_ids [] = refl
plain_ids (w ∷ ws) = ap (λ zs. Id w ∷ zs) (plain_ids ws)

-- the operands of a head and of ids behind it
told_operands : (h : Head) (image : List ℕ) (first end : ℕ) → first + head_len h ≤ end → end ≤ length image
    → plain_operands (head_operands h image first ++ id_operands (between image (first + head_len h) end)) ≡ told h
    (between image first end)
told_operands head.Nothing image first end o f =
    let e : first + 0 ≡ first = omega arith in
    ap (λ n. plain_operands (id_operands (between image n end))) e ∙ plain_ids (between image first end)
told_operands head.Result image first end o f =
    rw (front image first end (omega (arith, o)) f)
    (ap (λ zs. Result (slice_index image first) ∷ zs) (plain_ids (between image (first + 1) end)))
told_operands head.TypeAndResult image first end o f =
    let e : first + 1 + 1 ≡ first + 2 = omega arith in
    rw (front image first end (omega (arith, o)) f, front image (first + 1) end (omega (arith, o)) f)
    (ap (λ n. plain_operands (head_operands head.TypeAndResult image first ++ id_operands (between image n end)))
    (sym e) ∙ ap (λ zs. OfType (slice_index image first) ∷ Result (slice_index image (first + 1)) ∷ zs)
    (plain_ids (between image (first + 1 + 1) end)))

length_ids : (ws : List ℕ) → length (id_operands ws) ≡ length ws
length_ids [] = refl
length_ids (w ∷ ws) = ap suc (length_ids ws)

length_head : (h : Head) (ws : List ℕ) (first : ℕ) → length (head_operands h ws first) ≡ head_len h
length_head head.Nothing ws first = refl
length_head head.Result ws first = refl
length_head head.TypeAndResult ws first = refl

-- the operands that are added for a front
abbrev pub front_operands : Head → List ℕ → ℕ → ℕ → List code.Operand
front_operands h ws first end = head_operands h ws first ++ id_operands (between ws (first + head_len h) end)

length_front : (h : Head) (ws : List ℕ) (first end : ℕ) → first + head_len h ≤ end → end ≤ length ws
    → length (front_operands h ws first end) ≡ end - first
length_front h ws first end o f =
    let a = length-append (head_operands h ws first) (id_operands (between ws (first + head_len h) end)) in
    let b = length_head h ws first in
    let d = length_ids (between ws (first + head_len h) end) in
    let e = length-between ws (first + head_len h) end f in
    omega (arith, a, b, d, e, o)

added : (os xs : List code.Operand) → drop (length os) (os ++ xs) ≡ xs
added os xs = let h : length os ≤ length os = omega arith in
    rw (drop-append-le (length os) os xs h, drop_of_length-le os h) refl

pub kept : (os xs new : List code.Operand) → new ≡ os ++ xs → take (length os) new ≡ os
kept os xs new e = let h : length os ≤ length os = omega arith in
    rw (e, take-append-le (length os) os xs h) (take_all (length os) os h)

pub few : (h : Head) (ws : List ℕ) (first end : ℕ) (os new : List code.Operand) → first + head_len h ≤ end
    → end ≤ length ws
    → new ≡ os ++ front_operands h ws first end → length new ≡ length os + (end - first)
few h ws first end os new o f e =
    rw e (let a = length-append os (front_operands h ws first end) in let b = length_front h ws first end o f in
    omega (arith, a, b))

-- a front that takes so many operands has no longer head
pub head_within : (G : Table) (opcode n : ℕ) → is_taken (front_at G opcode) n ≡ true
    → head_len (front_at G opcode).head ≤ n
head_within G opcode n t =
    let k = front_known G opcode n t in
    let is = pattern_of k.entry in
    let u = taken_with G (head_in G is) (drop (head_len (head_in G is)) is) n (rw k.front at t) in
    let s = u.fits.some in
    let e : (front_at G opcode).head ≡ head_in G is = rw k.front u.same in
    rw e (omega (arith, s))

-- an instruction whose words its front takes
pub told_instruction : (G : Table) (b : List PlainInst) (ws : List ℕ) (at count opcode : ℕ) (os new : List code.Operand)
    → places.Front ws at count opcode → opcode < 65536 → count < 65536 → is_taken (front_at G opcode) (count - 1) ≡ true
    → new ≡ os ++ front_operands (front_at G opcode).head ws (at + 1) (at + count)
    → IsInstruction G b (record { opcode = opcode; operands = plain_operands (drop (length os) new) })
    (between ws at (at + count))
told_instruction G b ws at count opcode os new f n l t e =
    let some = f.some in
    let there = f.there in
    let inside = f.within in
    let k = front_known G opcode (count - 1) t in
    let is = pattern_of k.entry in
    let vs = between ws (at + 1) (at + count) in
    let fits : at + count ≤ length ws = omega (arith, there, inside) in
    let lb = length-between ws (at + 1) (at + count) fits in
    let long : length vs ≡ count - 1 = omega (arith, lb) in
    let t1 : is_taken (front_of G is) (count - 1) ≡ true = rw k.front at t in
    let t2 : is_taken (front_of G is) (length vs) ≡ true = rw long t1 in
    let h = (front_at G opcode).head in
    let w = head_within G opcode (count - 1) t in
    let m : Matches G (start b opcode) (map due is) (told h vs) vs = rw k.front
    (taken_front G is (start b opcode) vs t2) in
    let d : drop (length os) new ≡ front_operands h ws (at + 1) (at + count) = rw e
    (added os (front_operands h ws (at + 1) (at + count))) in
    let p : plain_operands (drop (length os) new) ≡ told h vs =
    ap plain_operands d ∙ told_operands h ws (at + 1) (at + count) (omega (arith, w, some)) fits in
    rw p (is_instruction G b ws at count opcode k.entry (told h vs) f n l (sym k.known)
    (flat_match G (start b opcode) is (told h vs) vs m))
