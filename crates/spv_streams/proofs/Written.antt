-- How a call ends that writes a reply.
use Rattle.std.proofs.Common.{◌≡◌, ◌↔◌, ◌++◌, ◌≤◌, ℕ, List, [], Option, Some, None, Bool}
use Rattle.std.proofs.Common.{Result, Ok, Err, IfSome, IfOk, IfErr, IsErrOf, length, take, ap, sym, refl}
use Rattle.std.proofs.Common.{inl, inr, arith, append-nil}
use Rattle.std.specs.Io.KnownBytes.{Appends}
use Rattle.std.proofs.KnownBytes.{Appends-nil}
use Rattle.spv_check.specs.Outcome.{OfKnown}
use Rattle.spv_table.specs.Table.{Table}
use Rattle.spv_command_line.specs.declared.command_line.Command.{Command}
use Rattle.spv_commands.specs.Output.{is_done, made_of, out_of}
use Rattle.spv_commands.specs.Streams.{IsAnswered, IsDone, Reading, Writing}
use Rattle.spv_commands.specs.Task.{Does}
use Rattle.spv_commands.specs.Trouble.{BeginsWith}
use Rattle.spv_commands.specs.inner.Answered.{Gives}
use Rattle.spv_commands.specs.declared.replying.Reply.{Reply}
use Rattle.spv_commands.specs.declared.trouble.Trouble.{Trouble}
use Rattle.spv_commands.specs.declared.trouble.Trouble.TheVariants.{File}
use Rattle.spv_streams.specs.Begin.{BeginsToDo}
use Rattle.spv_streams.specs.inner.Ending.{EndsByTable, IsReason}
use Rattle.spv_streams.specs.inner.Put.{GivesBoth, IsPut, IsWritten}
use Rattle.spv_commands.proofs.Carried.{CarriesOne}
use Rattle.spv_streams.proofs.Carries.{BeginsBoth, BeginsOne, CarriesBoth, begin_does, carry_does}
use Rattle.spv_streams.proofs.Replies.{any_bytes, some_by}

begun_as : (old new : Option (List ℕ)) (text : List ℕ)
    → IfSome old (λ xs. (n : ℕ) × (n ≤ length text) × (new ≡ Some (xs ++ take n text)))
    → IfSome old (λ xs. BeginsWith text xs new)
begun_as None new text b = tt
begun_as (Some xs) new text b = record { count = b.0; fits = b.1; written = b.2 }

nothing_begun : (old : Option (List ℕ)) → IfSome old (λ xs. BeginsWith [] xs old)
nothing_begun None = tt
nothing_begun (Some xs) = record { count = 0; fits = omega arith; written = ap Some (sym (append-nil xs)) }

-- ---- a text is written

pub put_whole : (text : List ℕ) (done : Bool) (to : Writing) → Appends to.held to.holds text → ¬ to.failed
    → IfSome to.held (λ xs. (n : ℕ) × (n ≤ length text) × (to.holds ≡ Some (xs ++ take n text)))
    → IsPut text done to (Ok done)
put_whole text done to w n b = record {
  whole = (refl, w);
  failed = (λ f. absurd (n f), λ q. cc);
  only = tt;
  unwritten = λ q. cc;
  begun = begun_as to.held to.holds text b;
}

pub put_failed : (text : List ℕ) (done : Bool) (to : Writing) → to.failed → to.untouched
    → IfSome to.held (λ xs. (n : ℕ) × (n ≤ length text) × (to.holds ≡ Some (xs ++ take n text)))
    → IsPut text done to (Err File)
put_failed text done to f u b = record {
  whole = tt;
  failed = (λ q. refl, λ q. f);
  only = refl;
  unwritten = λ q. u;
  begun = begun_as to.held to.holds text b;
}

-- or no text
pub put_nothing : (text : List ℕ) (done : Bool) (to : Writing) → text ≡ [] → to.holds ≡ to.held → ¬ to.failed
    → IsPut text done to (Ok done)
put_nothing text done to e s n = rw (e, s) (record {
  whole = (refl, Appends-nil to.held);
  failed = (λ f. absurd (n f), λ q. cc);
  only = tt;
  unwritten = λ q. cc;
  begun = nothing_begun to.held;
})

-- a reply is written where the standard output has got what it has for that, or the file that is made its module
pub told_written : (a : Reply) (out made : Writing) (r : Result Bool Trouble) → made_of a ≡ []
    → made.holds ≡ made.held → ¬ made.failed → made.untouched → IsPut (out_of a) (is_done a) out r
    → IsWritten a out made r
told_written a out made r e s n u p = record {
  whole = whole r p.whole;
  failed = (λ f. elim f [ inl x ↦ p.failed.0 x | inr x ↦ absurd (n x) ], λ q. inl (p.failed.1 q));
  only = p.only;
  unwritten = p.unwritten;
  unmade = λ q. u;
  begun = p.begun;
  made_begun = rw (e, s) (nothing_begun made.held);
}
  where
    whole : (r : Result Bool Trouble)
        → IfOk r (λ answer. (answer ≡ is_done a) × Appends out.held out.holds (out_of a))
        → IfOk r (λ answer. (answer ≡ is_done a) × Appends out.held out.holds (out_of a)
        × Appends made.held made.holds (made_of a))
    whole (Ok b) h = (h.0, h.1, rw (e, s) (Appends-nil made.held))
    whole (Err t) h = tt

pub made_written : (a : Reply) (out made : Writing) (r : Result Bool Trouble) → out_of a ≡ []
    → out.holds ≡ out.held → ¬ out.failed → out.untouched → IsPut (made_of a) (is_done a) made r
    → IsWritten a out made r
made_written a out made r e s n u p = record {
  whole = whole r p.whole;
  failed = (λ f. elim f [ inl x ↦ absurd (n x) | inr x ↦ p.failed.0 x ], λ q. inr (p.failed.1 q));
  only = p.only;
  unwritten = λ q. u;
  unmade = p.unwritten;
  begun = rw (e, s) (nothing_begun out.held);
  made_begun = p.begun;
}
  where
    whole : (r : Result Bool Trouble)
        → IfOk r (λ answer. (answer ≡ is_done a) × Appends made.held made.holds (made_of a))
        → IfOk r (λ answer. (answer ≡ is_done a) × Appends out.held out.holds (out_of a)
        × Appends made.held made.holds (made_of a))
    whole (Ok b) h = (h.0, rw (e, s) (Appends-nil out.held), h.1)
    whole (Err t) h = tt

-- ---- a call with one writer

pub one_refused : {E : Type 0} (W : List ℕ → List ℕ → Option (List ℕ) → Bool → Type 0)
    (B : List ℕ → List ℕ → Option (List ℕ) → Type 0) (f : Reading) (out : Writing) (failure e : E)
    → (f.failed ↔ (e ≡ failure)) → ¬ out.failed → out.untouched → IsAnswered {E = E} W B failure f out (Err e)
one_refused {E} W B f out failure e c n u = record {
  whole = any_known f.left out.held;
  count = (
    λ t. elim t [ inl x ↦ ap Err (c.0 x) | inr x ↦ absurd (n x) ],
    λ q. let same : e ≡ failure = cc in inl (c.1 same),
  );
  unwritten = λ q. u;
  begun = λ x. absurd (n x);
}
  where
    any_known : (left held : Option (List ℕ)) → OfKnown left held (λ bytes old. Unit {0})
    any_known None held = tt
    any_known (Some bytes) None = tt
    any_known (Some bytes) (Some old) = tt

whole_one : (W : List ℕ → List ℕ → Option (List ℕ) → Bool → Type 0) → CarriesOne W
    → (left held new : Option (List ℕ)) (a : Reply) (answer : Bool) → IfSome left (λ bytes. Gives W bytes a)
    → answer ≡ is_done a → Appends held new (out_of a) → OfKnown left held (λ bytes old. W bytes old new answer)
whole_one W carry None held new a answer g e w = tt
whole_one W carry (Some bytes) None new a answer g e w = tt
whole_one W carry (Some bytes) (Some old) None a answer g e w = absurd w
whole_one W carry (Some bytes) (Some old) (Some xs) a answer g e w =
    rw e (carry bytes (out_of a) old (Some xs) (is_done a) g.0 (ap Some w))

begun_one : (W : List ℕ → List ℕ → Option (List ℕ) → Bool → Type 0)
    (B : List ℕ → List ℕ → Option (List ℕ) → Type 0) → BeginsOne W B
    → (left held new : Option (List ℕ)) (a : Reply) → IfSome left (λ bytes. Gives W bytes a)
    → IfSome held (λ old. BeginsWith (out_of a) old new) → OfKnown left held (λ bytes old. B bytes old new)
begun_one W B begin None held new a g b = tt
begun_one W B begin (Some bytes) None new a g b = tt
begun_one W B begin (Some bytes) (Some old) new a g b = begin bytes (out_of a) old new (is_done a) g.0 b

pub one_written : {E : Type 0} (W : List ℕ → List ℕ → Option (List ℕ) → Bool → Type 0)
    (B : List ℕ → List ℕ → Option (List ℕ) → Type 0) → CarriesOne W → BeginsOne W B
    → (f : Reading) (out : Writing) (failure : E) (a : Reply) (answer : Bool)
    → IfSome f.left (λ bytes. Gives W bytes a) → ¬ f.failed
    → IsPut (out_of a) (is_done a) out (Ok answer) → IsAnswered {E = E} W B failure f out (Ok answer)
one_written {E} W B carry begin f out failure a answer g n p = record {
  whole = whole_one W carry f.left out.held out.holds a answer g p.whole.0 p.whole.1;
  count = (
    λ t. elim t [ inl x ↦ absurd (n x) | inr x ↦ absurd (no_error (p.failed.0 x)) ],
    λ q. cc,
  );
  unwritten = λ q. cc;
  begun = λ x. begun_one W B begin f.left out.held out.holds a g p.begun;
}
  where
    no_error : ¬ (IsErrOf {T = Bool} {E = Trouble} (Ok answer) File)
    no_error q = cc

pub one_failed : {E : Type 0} (W : List ℕ → List ℕ → Option (List ℕ) → Bool → Type 0)
    (B : List ℕ → List ℕ → Option (List ℕ) → Type 0) → BeginsOne W B
    → (f : Reading) (out : Writing) (failure : E) (a : Reply) (t : Trouble)
    → IfSome f.left (λ bytes. Gives W bytes a)
    → IsPut (out_of a) (is_done a) out (Err t) → IsAnswered {E = E} W B failure f out (Err failure)
one_failed {E} W B begin f out failure a t g p = record {
  whole = any_known f.left out.held;
  count = (λ x. refl, λ q. inr (p.failed.1 (ap Err p.only)));
  unwritten = λ q. p.unwritten refl;
  begun = λ x. begun_one W B begin f.left out.held out.holds a g p.begun;
}
  where
    any_known : (left held : Option (List ℕ)) → OfKnown left held (λ bytes old. Unit {0})
    any_known None held = tt
    any_known (Some bytes) None = tt
    any_known (Some bytes) (Some old) = tt

-- the same of an answer of either sort
pub one_answered : (W : List ℕ → List ℕ → Option (List ℕ) → Bool → Type 0)
    (B : List ℕ → List ℕ → Option (List ℕ) → Type 0) → CarriesOne W → BeginsOne W B
    → (f : Reading) (out : Writing) (a : Reply) (r : Result Bool Trouble)
    → IfSome f.left (λ bytes. Gives W bytes a) → ¬ f.failed
    → IsPut (out_of a) (is_done a) out r → IsAnswered W B File f out r
one_answered W B carry begin f out a (Ok answer) g n p = one_written W B carry begin f out File a answer g n p
one_answered W B carry begin f out a (Err t) g n p =
    let failed = p.only in rw failed (one_failed W B begin f out File a t g p)

-- ---- a call with two writers

pub both_refused : (W : List ℕ → Option (List ℕ) → Option (List ℕ) → Option (List ℕ) → Option (List ℕ) → Bool → Type 0)
    (B : List ℕ → Option (List ℕ) → Option (List ℕ) → Option (List ℕ) → Option (List ℕ) → Type 0)
    (f : Reading) (out made : Writing) (t : Trouble) → (f.failed ↔ (t ≡ File)) → ¬ out.failed → ¬ made.failed
    → out.untouched → made.untouched → IsDone W B File f out made (Err t)
both_refused W B f out made t c x y u v = record {
  whole = any_bytes f.left (Unit {0}) tt;
  failed = (
    λ q. elim q [
      | inl a ↦ ap Err (c.0 a)
      | inr b ↦
          elim b [ inl a ↦ absurd (x a) | inr a ↦ absurd (y a) ]
    ],
    λ q. let same : t ≡ File = cc in inl (c.1 same),
  );
  unwritten = λ q. u;
  unmade = λ q. v;
  begun = λ q. elim q [ inl a ↦ absurd (x a) | inr a ↦ absurd (y a) ];
}

pub both_written : (W : List ℕ → Option (List ℕ) → Option (List ℕ) → Option (List ℕ) → Option (List ℕ) → Bool → Type 0)
    (B : List ℕ → Option (List ℕ) → Option (List ℕ) → Option (List ℕ) → Option (List ℕ) → Type 0)
    → CarriesBoth W → BeginsBoth W B → (f : Reading) (out made : Writing) (a : Reply) (r : Result Bool Trouble)
    → IfSome f.left (λ bytes. GivesBoth W bytes a) → ¬ f.failed → IsWritten a out made r
    → IsDone W B File f out made r
both_written W B carry begin f out made a r g n w = record {
  whole = whole r w.whole;
  failed = (
    λ q. elim q [ inl x ↦ absurd (n x) | inr x ↦ w.failed.0 x ],
    λ q. inr (w.failed.1 q),
  );
  unwritten = w.unwritten;
  unmade = w.unmade;
  begun = λ q. some_by f.left (λ bytes. GivesBoth W bytes a)
      (λ bytes. B bytes out.held out.holds made.held made.holds)
      (λ bytes h. begin bytes (out_of a) (made_of a) (is_done a) out.held out.holds made.held made.holds h w.begun
      w.made_begun) g;
}
  where
    whole : (r : Result Bool Trouble)
        → IfOk r (λ answer. (answer ≡ is_done a) × Appends out.held out.holds (out_of a)
        × Appends made.held made.holds (made_of a))
        → IfSome f.left (λ bytes. IfOk r (W bytes out.held out.holds made.held made.holds))
    whole (Err t) h = any_bytes f.left (Unit {0}) tt
    whole (Ok b) h = some_by f.left (λ bytes. GivesBoth W bytes a)
        (λ bytes. W bytes out.held out.holds made.held made.holds b)
        (λ bytes x. rw (h.0) (carry bytes (out_of a) (made_of a) (is_done a) out.held out.holds made.held made.holds x
        h.1 h.2)) g

-- ---- a command

pub unanswered : (c : Command) (G : Table) (f : Reading) (out made : Writing) (t : Trouble) → IsReason c G f.left t
    → (f.failed ↔ (t ≡ File)) → ¬ out.failed → ¬ made.failed → out.untouched → made.untouched
    → EndsByTable c G f out made (Err t)
unanswered c G f out made t h n x y u v =
    record { ends = both_refused (Does c G) (BeginsToDo c G) f out made t n x y u v; only = h }

pub answered : (c : Command) (G : Table) (f : Reading) (out made : Writing) (a : Reply) (r : Result Bool Trouble)
    → IfSome f.left (λ bytes. GivesBoth (Does c G) bytes a) → ¬ f.failed → IsWritten a out made r
    → EndsByTable c G f out made r
answered c G f out made a r g n w = record {
  ends = both_written (Does c G) (BeginsToDo c G) (carry_does c G) (begin_does c G) f out made a r g n w;
  only = failed r w.only;
}
  where
    failed : (r : Result Bool Trouble) → IfErr r (λ t. t ≡ File) → IfErr r (IsReason c G f.left)
    failed (Ok b) h = tt
    failed (Err t) h = inl h
