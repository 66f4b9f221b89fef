-- What a decoder keeps from one operand to the next. It needs no completeness: that comes of the laws of uniqueness.
use Rattle.std.proofs.Common.{◌≡◌, ◌++◌, ◌∙◌, ◌+◌, ℕ, List, [], ◌∷◌, length, map, refl, ap, arith, append_assoc}
use Rattle.std.proofs.Common.{append-nil}
use Rattle.spv_table.specs.Table.{Table}
use Rattle.spv_module.specs.Operand.{Plain, Context, and_then, after}
use Rattle.spv_module.specs.Shape.{Slot, AsParts, shape_of}
use Rattle.spv_module.specs.Spelling.{Takes}
use Rattle.spv_module.specs.declared.fault.Rule.{Rule}
use Rattle.spv_module.specs.Refusal.{ShapeRefuses}
use Rattle.spv_inst.specs.inner.Sofar.{Sofar}
use Rattle.spv_inst.specs.Flat.{Due, OneOf, MaybeOf, ManyOf}
use Rattle.spv_inst.specs.inner.Flat.{Matches, Fails}
use Rattle.spv_inst.proofs.Joined.{after-append}

abbrev context_of : Context → List Plain → Context
context_of c zs = record { before = c.before; opcode = c.opcode; operands = zs }

-- the context is the operands so far
pub after_is : (c : Context) (os : List Plain)
    → after c os ≡ record { before = c.before; opcode = c.opcode; operands = c.operands ++ os }
after_is c [] = rw append-nil refl
after_is c (o ∷ os) = after_is (and_then c o) os ∙ ap (λ zs. context_of c zs) (append_assoc c.operands (o ∷ []) os)

pub at_start : (G : Table) (c : Context) (pattern : List Due) (words : List ℕ)
    → Sofar G c pattern words [] pattern words 0
at_start G c pattern words = record { matched = λ ps m. m; failed = λ a n f. let e : 0 + n ≡ n = omega arith in rw e f }

pub at_operand : (G : Table) (c : Context) (pattern : List Due) (words : List ℕ) (out : List Plain) (s : Slot)
    (ds : List Due) (taken : ℕ)
    (o : Plain) (ws us : List ℕ) (ss : List Slot)
    → Sofar G c pattern words out (OneOf s ∷ ds) (ws ++ us) taken → Takes s.kind (shape_of G (after c out) s) o ws ss
    → Sofar G c pattern words (out ++ (o ∷ [])) (map OneOf ss ++ ds) us (taken + length ws)
at_operand G c pattern words out s ds taken o ws us ss k t = record {
  matched = λ ps m.
      let m' : Matches G (and_then (after c out) o) (map OneOf ss ++ ds) ps us = rw
      (after-append c out (o ∷ [])) at m in
      rw (append_assoc out (o ∷ []) ps) (k.matched (o ∷ ps) (Matches.take (after c out) s ds o ws ss ps us t m'));
  failed = λ a n f.
      let f' : Fails G (and_then (after c out) o) (map OneOf ss ++ ds) us a n = rw (after-append c out (o ∷ [])) at f in
      let e : (taken + length ws) + n ≡ taken + (length ws + n) = omega arith in
      rw e (k.failed a (length ws + n) (Fails.take (after c out) s ds o ws ss us a n t f'));
}

pub at_parts : (G : Table) (c : Context) (pattern : List Due) (words : List ℕ) (out : List Plain) (s : Slot)
    (ds : List Due) (taken : ℕ) (us : List ℕ) (ss : List Slot)
    → Sofar G c pattern words out (OneOf s ∷ ds) us taken → shape_of G (after c out) s ≡ AsParts ss
    → Sofar G c pattern words out (map OneOf ss ++ ds) us taken
at_parts G c pattern words out s ds taken us ss k h = record {
  matched = λ ps m. k.matched ps (Matches.parts (after c out) s ds ss ps us h m);
  failed = λ a n f. k.failed a n (Fails.parts (after c out) s ds ss us a n h f);
}

pub at_maybe : (G : Table) (c : Context) (pattern : List Due) (words : List ℕ) (out : List Plain) (s : Slot)
    (ds : List Due) (taken u : ℕ) (us : List ℕ)
    → Sofar G c pattern words out (MaybeOf s ∷ ds) (u ∷ us) taken
    → Sofar G c pattern words out (OneOf s ∷ ds) (u ∷ us) taken
at_maybe G c pattern words out s ds taken u us k = record {
  matched = λ ps m. k.matched ps (Matches.maybe (after c out) s ds ps u us m);
  failed = λ a n f. k.failed a n (Fails.maybe (after c out) s ds u us a n f);
}

pub at_many : (G : Table) (c : Context) (pattern : List Due) (words : List ℕ) (out : List Plain) (s : Slot)
    (ds : List Due) (taken u : ℕ) (us : List ℕ)
    → Sofar G c pattern words out (ManyOf s ∷ ds) (u ∷ us) taken
    → Sofar G c pattern words out (OneOf s ∷ ManyOf s ∷ ds) (u ∷ us) taken
at_many G c pattern words out s ds taken u us k = record {
  matched = λ ps m. k.matched ps (Matches.many (after c out) s ds ps u us m);
  failed = λ a n f. k.failed a n (Fails.many (after c out) s ds u us a n f);
}

pub at_no_maybe : (G : Table) (c : Context) (pattern : List Due) (words : List ℕ) (out : List Plain) (s : Slot)
    (ds : List Due) (taken : ℕ)
    → Sofar G c pattern words out (MaybeOf s ∷ ds) [] taken → Sofar G c pattern words out ds [] taken
at_no_maybe G c pattern words out s ds taken k = record {
  matched = λ ps m. k.matched ps (Matches.no_maybe (after c out) s ds ps m);
  failed = λ a n f. k.failed a n (Fails.no_maybe (after c out) s ds a n f);
}

pub at_no_many : (G : Table) (c : Context) (pattern : List Due) (words : List ℕ) (out : List Plain) (s : Slot)
    (ds : List Due) (taken : ℕ)
    → Sofar G c pattern words out (ManyOf s ∷ ds) [] taken → Sofar G c pattern words out ds [] taken
at_no_many G c pattern words out s ds taken k = record {
  matched = λ ps m. k.matched ps (Matches.no_many (after c out) s ds ps m);
  failed = λ a n f. k.failed a n (Fails.no_many (after c out) s ds a n f);
}

-- the end of what is due and of the words
pub at_end : (G : Table) (c : Context) (pattern : List Due) (words : List ℕ) (out : List Plain) (taken : ℕ)
    → Sofar G c pattern words out [] [] taken → Matches G c pattern out words
at_end G c pattern words out taken k = rw append-nil at (k.matched [] (Matches.end (after c out)))

-- a refusal
pub at_refusal : (G : Table) (c : Context) (pattern : List Due) (words : List ℕ) (out : List Plain) (s : Slot)
    (ds : List Due) (us : List ℕ) (taken : ℕ) (a : Rule) (n : ℕ)
    → Sofar G c pattern words out (OneOf s ∷ ds) us taken → ShapeRefuses (shape_of G (after c out) s) us a n
    → Fails G c pattern words a (taken + n)
at_refusal G c pattern words out s ds us taken a n k r = k.failed a n (Fails.refused (after c out) s ds us a n r)
