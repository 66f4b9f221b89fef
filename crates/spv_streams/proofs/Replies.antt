-- What a command answers of what its file gives.
use Rattle.std.proofs.Common.{◌≡◌, ◌≢◌, ◌⊎◌, ◌↔◌, ◌∙◌, ◌<◌, ℕ, Bool, List, Option, Some, None, Result, Ok, Err, IfSome}
use Rattle.std.proofs.Common.{IfOk, IfErr, IsErrOf, IsUtf8, length, ap, arith, subst, refl, inl, inr}
use Rattle.std.specs.Prelude.{Vec}
use Rattle.std.specs.Global.{Global}
use Rattle.spv_words.specs.Header.{BytesKeep, IsFirstBroken, place_of}
use Rattle.spv_words.specs.declared.words.WordError.{WordError}
use Rattle.spv_words.specs.declared.words.WordError.TheVariants as word
use Rattle.spv_table.specs.Table.{Table}
use Rattle.spv_extended.specs.declared.reach.Reach.{Reach}
use Rattle.spv_names.specs.declared.chosen.Chosen.{Chosen}
use Rattle.spv_command_line.specs.declared.command_line.Command.{Command}
use Rattle.spv_command_line.specs.declared.command_line.Command.TheVariants.{Judge, Show, Asm, Trace, Rules, Grammar}
use Rattle.spv_command_line.specs.declared.command_line.Command.TheVariants.{Annotate, Graph}
use Rattle.spv_commands.specs.Task.{Does, IsAmbiguous, IsNoText, LacksAsked, LacksEntry, ReadsNoFile}
use Rattle.spv_commands.specs.Assemble.{text_read}
use Rattle.spv_scope.specs.Scope.{reach_of, taken}
use Rattle.spv_commands.specs.Trace.{HasNoEntry, HasSeveral}
use Rattle.spv_views.specs.View.{LacksFunction, NamesSeveral}
use Rattle.spv_commands.specs.inner.Answered.{IsAnswerBy, WhyNot}
use Rattle.spv_commands.specs.inner.Asked.{reads_of}
use Rattle.spv_commands.specs.declared.asked.Reads.TheVariants.{Module, Nothing}
use Rattle.spv_commands.specs.declared.replying.Reply.{Reply}
use Rattle.spv_commands.specs.declared.trouble.Trouble.{Trouble}
use Rattle.spv_commands.specs.declared.trouble.Trouble.TheVariants.{File, Memory, NoEntry, NotText, SeveralFunctions}
use Rattle.spv_streams.specs.inner.Content.{IsContent, code_of, stopped_by}
use Rattle.spv_streams.specs.inner.Ending.{IsReason}
use Rattle.spv_streams.specs.inner.Put.{GivesBoth}

-- ---- what is known of an option or a result

pub some_by : {X : Type 0} (o : Option X) (P Q : X → Type 0) → ((x : X) → P x → Q x) → IfSome o P → IfSome o Q
some_by None P Q f h = tt
some_by (Some x) P Q f h = f x h

pub ok_by : {X E : Type 0} (r : Result X E) (P Q : X → Type 0) → ((x : X) → P x → Q x) → IfOk r P → IfOk r Q
ok_by (Ok x) P Q f h = f x h
ok_by (Err e) P Q f h = tt

-- what holds of any bytes
pub any_bytes : (o : Option (List ℕ)) (P : Type 0) → P → IfSome o (λ bytes. P)
any_bytes None P h = tt
any_bytes (Some x) P h = h

-- what holds of all the bytes of a reader
pub all_known : (known : Option (List ℕ)) (bytes : List ℕ) (P : List ℕ → Type 0) → IfSome known (λ xs. bytes ≡ xs)
    → P bytes → IfSome known P
all_known None bytes P e h = tt
all_known (Some xs) bytes P e h = subst P e h

-- ---- a module that was not read to its end

too_large : (bytes : List ℕ) → 16777216 < length bytes → IsFirstBroken word.W8 bytes
too_large bytes l = record { broken = λ h. absurd (omega (arith, l, h)); before = before }
  where
    before : (d : WordError) → place_of d < 1 → BytesKeep d bytes
    before word.W1 k = tt
    before word.W2 k = absurd (omega (arith, k))
    before word.W3 k = absurd (omega (arith, k))
    before word.W4 k = absurd (omega (arith, k))
    before word.W5 k = absurd (omega (arith, k))
    before word.W6 k = absurd (omega (arith, k))
    before word.W7 k = absurd (omega (arith, k))
    before word.W8 k = absurd (omega (arith, k))
    before word.W9 k = tt

pub stopped_known : (known : Option (List ℕ)) (code : WordError)
    → (code ≡ word.W8 → IfSome known (λ xs. 16777216 < length xs))
    → IfSome known (λ xs. IfOk (stopped_by code) (IsContent Module xs))
stopped_known None code h = tt
stopped_known (Some xs) word.W8 h = too_large xs (h refl)
stopped_known (Some xs) word.W1 h = tt
stopped_known (Some xs) code h = tt

pub stopped_only : (code : WordError) → IfErr (stopped_by code) (λ t. (t ≡ File) ⊎ (t ≡ Memory))
stopped_only word.W8 = tt
stopped_only word.W1 = inl refl
stopped_only code = inr refl

pub stopped_count : {X : Type 0} (P : Type 0) (code : WordError) (r : Result X WordError) → r ≡ Err code
    → (P ↔ IsErrOf r word.W1) → (P ↔ IsErrOf (stopped_by code) File)
stopped_count P word.W1 r q h = (λ p. refl, λ e. h.1 q)
stopped_count P word.W8 r q h = (λ p. let e = h.0 p in cc, λ e. cc)
stopped_count P code r q h = (λ p. let e = h.0 p in cc, λ e. cc)

-- the code of a trouble that was read
pub code_count : {X : Type 0} (P : Type 0) (t : Trouble) (r : Result X Trouble) → r ≡ Err t → (t ≡ File) ⊎ (t ≡ Memory)
    → (P ↔ IsErrOf r File) → (P ↔ (code_of t ≡ word.W1))
code_count P t r q (inl e) h = (λ p. rw e refl, λ w. h.1 (q ∙ ap Err e))
code_count P t r q (inr e) h = (λ p. let f = h.0 p in cc, λ w. let m : word.W9 ≡ word.W1 = rw e at w in cc)

-- ---- what a command reads

pub reads_nothing : (c : Command) → ReadsNoFile c → reads_of c ≡ Nothing
reads_nothing (Judge task g fs s p q j) n = absurd n
reads_nothing (Show g f s) n = absurd n
reads_nothing (Asm g f out b x o) n = absurd n
reads_nothing (Trace g f id choices limit s) n = absurd n
reads_nothing (Annotate g f s id form color) n = absurd n
reads_nothing (Graph g f s id) n = absurd n
reads_nothing (Rules code j) n = refl
reads_nothing (Grammar file) n = refl

-- a command that reads something has got the bytes of its file
same_content : (c : Command) (bytes : List ℕ) (v : Vec ℕ Global) → IsContent (reads_of c) bytes (Some v)
    → ReadsNoFile c ⊎ (v.items ≡ bytes)
same_content (Judge task g fs s p q j) bytes w k = inr k
same_content (Show g f s) bytes w k = inr k
same_content (Asm g f out b x o) bytes w k = inr k
same_content (Trace g f id choices limit s) bytes w k = inr k
same_content (Annotate g f s id form color) bytes w k = inr k
same_content (Graph g f s id) bytes w k = inr k
same_content (Rules code j) bytes w k = inl tt
same_content (Grammar file) bytes w k = inl tt

-- and one that reads nothing does the same with any
any_file : (c : Command) (G : Table) (bytes other : List ℕ) (a : Reply) → ReadsNoFile c → GivesBoth (Does c G) bytes a
    → GivesBoth (Does c G) other a
any_file (Judge task g fs s p q j) G bytes other a n h = absurd n
any_file (Show g f s) G bytes other a n h = absurd n
any_file (Asm g f out b x o) G bytes other a n h = absurd n
any_file (Trace g f id choices limit s) G bytes other a n h = absurd n
any_file (Annotate g f s id form color) G bytes other a n h = absurd n
any_file (Graph g f s id) G bytes other a n h = absurd n
any_file (Rules code j) G bytes other a n h = h
any_file (Grammar file) G bytes other a n h = h

pub reply_known : (c : Command) (G : Table) (left : Option (List ℕ)) (v : Vec ℕ Global) (r : Result Reply Trouble)
    → IfSome left (λ bytes. IsContent (reads_of c) bytes (Some v)) → IfOk r (IsAnswerBy c G v.items)
    → IfSome left (λ bytes. IfOk r (GivesBoth (Does c G) bytes))
reply_known c G None v r k h = tt
reply_known c G (Some bytes) v (Err t) k h = tt
reply_known c G (Some bytes) v (Ok a) k h = elim (same_content c bytes v k) [
  | inl n ↦ any_file c G v.items bytes a n h.0
  | inr e ↦ subst (λ (l : List ℕ). GivesBoth (Does c G) l a) e h.0
]

-- only a module is too long
long_content : (c : Command) (bytes : List ℕ) → IsContent (reads_of c) bytes None
    → (reads_of c ≡ Module) × IsFirstBroken word.W8 bytes
long_content (Judge task g fs s p q j) bytes k = (refl, k)
long_content (Show g f s) bytes k = (refl, k)
long_content (Asm g f out b x o) bytes k = absurd k
long_content (Trace g f id choices limit s) bytes k = (refl, k)
long_content (Annotate g f s id form color) bytes k = (refl, k)
long_content (Graph g f s id) bytes k = (refl, k)
long_content (Rules code j) bytes k = absurd k
long_content (Grammar file) bytes k = absurd k

pub long_known : (c : Command) (G : Table) (left : Option (List ℕ)) (r : Result Reply Trouble)
    → IfSome left (λ bytes. IsContent (reads_of c) bytes None)
    → ((G : Table) (bytes : List ℕ) → reads_of c ≡ Module → IsFirstBroken word.W8 bytes → IfOk r (IsAnswerBy c G bytes))
    → IfSome left (λ bytes. IfOk r (GivesBoth (Does c G) bytes))
long_known c G left r k h = some_by left (λ bytes. IsContent (reads_of c) bytes None)
    (λ bytes. IfOk r (GivesBoth (Does c G) bytes))
    (λ bytes x. let long = long_content c bytes x in
    ok_by r (IsAnswerBy c G bytes) (GivesBoth (Does c G) bytes) (λ a y. y.0) (h G bytes long.0 long.1)) k

-- ---- why there is no answer

text_known : (c : Command) (left : Option (List ℕ)) (v : Vec ℕ Global)
    → IfSome left (λ bytes. IsContent (reads_of c) bytes (Some v)) → IsNoText c (Some v.items) → IsNoText c left
text_known (Judge task g fs s p q j) left w k h = absurd h
text_known (Show g f s) left w k h = absurd h
text_known (Asm g f out b x o) None w k h = tt
text_known (Asm g f out b x o) (Some bytes) w k h = subst (λ (l : List ℕ). ¬ (IsUtf8 (text_read o l))) k h
text_known (Trace g f id choices limit s) left w k h = absurd h
text_known (Annotate g f s id form color) left w k h = absurd h
text_known (Graph g f s id) left w k h = absurd h
text_known (Rules code j) left w k h = absurd h
text_known (Grammar file) left w k h = absurd h

entry_known : (c : Command) (G : Table) (left : Option (List ℕ)) (v : Vec ℕ Global)
    → IfSome left (λ bytes. IsContent (reads_of c) bytes (Some v)) → LacksEntry c G (Some v.items) → LacksEntry c G left
entry_known (Judge task g fs s p q j) G left w k h = absurd h
entry_known (Show g f s) G left w k h = absurd h
entry_known (Asm g f out b x o) G left w k h = absurd h
entry_known (Trace g f id choices limit s) G None w k h = tt
entry_known (Trace g f id choices limit s) G (Some bytes) w k h =
    subst (λ (l : List ℕ). HasNoEntry G (reach_of s l) (taken s l) id) k h
entry_known (Annotate g f s id form color) G left w k h = absurd h
entry_known (Graph g f s id) G left w k h = absurd h
entry_known (Rules code j) G left w k h = absurd h
entry_known (Grammar file) G left w k h = absurd h

asked_known : (c : Command) (G : Table) (left : Option (List ℕ)) (v : Vec ℕ Global)
    → IfSome left (λ bytes. IsContent (reads_of c) bytes (Some v)) → LacksAsked c G (Some v.items) → LacksAsked c G left
asked_known (Judge task g fs s p q j) G left w k h = absurd h
asked_known (Show g f s) G left w k h = absurd h
asked_known (Asm g f out b x o) G left w k h = absurd h
asked_known (Trace g f id choices limit s) G left w k h = absurd h
asked_known (Annotate g f s id form color) G None w k h = tt
asked_known (Annotate g f s id form color) G (Some bytes) w k h =
    subst (λ (l : List ℕ). LacksFunction G (reach_of s l) (taken s l) id) k h
asked_known (Graph g f s id) G None w k h = tt
asked_known (Graph g f s id) G (Some bytes) w k h =
    subst (λ (l : List ℕ). LacksFunction G (reach_of s l) (taken s l) id) k h
asked_known (Rules code j) G left w k h = absurd h
asked_known (Grammar file) G left w k h = absurd h

several_known : (c : Command) (G : Table) (left : Option (List ℕ)) (v : Vec ℕ Global)
    → IfSome left (λ bytes. IsContent (reads_of c) bytes (Some v)) → IsAmbiguous c G (Some v.items)
    → IsAmbiguous c G left
several_known (Judge task g fs s p q j) G left w k h = absurd h
several_known (Show g f s) G left w k h = absurd h
several_known (Asm g f out b x o) G left w k h = absurd h
several_known (Trace g f id choices limit s) G None w k h = tt
several_known (Trace g f id choices limit s) G (Some bytes) w k h =
    subst (λ (l : List ℕ). HasSeveral G (reach_of s l) (taken s l) id) k h
several_known (Annotate g f s id form color) G None w k h = tt
several_known (Annotate g f s id form color) G (Some bytes) w k h =
    subst (λ (l : List ℕ). NamesSeveral G (reach_of s l) (taken s l) id) k h
several_known (Graph g f s id) G None w k h = tt
several_known (Graph g f s id) G (Some bytes) w k h =
    subst (λ (l : List ℕ). NamesSeveral G (reach_of s l) (taken s l) id) k h
several_known (Rules code j) G left w k h = absurd h
several_known (Grammar file) G left w k h = absurd h

reason_known : (c : Command) (G : Table) (left : Option (List ℕ)) (v : Vec ℕ Global) (t : Trouble)
    → IfSome left (λ bytes. IsContent (reads_of c) bytes (Some v)) → WhyNot c G v.items t → IsReason c G left t
reason_known c G left v t k (inl e) = inr (inl (e.0, text_known c left v k e.1))
reason_known c G left v t k (inr (inl e)) = inr (inr (inl (e.0, entry_known c G left v k e.1)))
reason_known c G left v t k (inr (inr (inl e))) = inr (inr (inr (inl (e.0, asked_known c G left v k e.1))))
reason_known c G left v t k (inr (inr (inr (inl e)))) =
    inr (inr (inr (inr (inl (e.0, several_known c G left v k e.1)))))
reason_known c G left v t k (inr (inr (inr (inr e)))) = inr (inr (inr (inr (inr e))))

pub why_known : (c : Command) (G : Table) (left : Option (List ℕ)) (v : Vec ℕ Global) (r : Result Reply Trouble)
    → IfSome left (λ bytes. IsContent (reads_of c) bytes (Some v)) → IfErr r (WhyNot c G v.items)
    → IfErr r (IsReason c G left)
why_known c G left v (Ok a) k h = tt
why_known c G left v (Err t) k h = reason_known c G left v t k h

-- the same of a run, and of a text
pub entry_reason : (G : Table) (reach : Reach) (function : Chosen) (left : Option (List ℕ)) (bytes : List ℕ)
    (r : Result Reply Trouble) → IfSome left (λ xs. bytes ≡ xs)
    → IfErr r (λ t. ((t ≡ NoEntry) × HasNoEntry G reach bytes function)
    ⊎ ((t ≡ SeveralFunctions) × HasSeveral G reach bytes function) ⊎ (t ≡ Memory))
    → IfErr r (λ t. (t ≡ File) ⊎ ((t ≡ NoEntry) × IfSome left (λ xs. HasNoEntry G reach xs function))
    ⊎ ((t ≡ SeveralFunctions) × IfSome left (λ xs. HasSeveral G reach xs function)) ⊎ (t ≡ Memory))
entry_reason G reach function left bytes (Ok a) k h = tt
entry_reason G reach function left bytes (Err t) k (inl e) =
    inr (inl (e.0, all_known left bytes (λ xs. HasNoEntry G reach xs function) k e.1))
entry_reason G reach function left bytes (Err t) k (inr (inl e)) =
    inr (inr (inl (e.0, all_known left bytes (λ xs. HasSeveral G reach xs function) k e.1)))
entry_reason G reach function left bytes (Err t) k (inr (inr e)) = inr (inr (inr e))

pub text_reason : (opencl : Bool) (left : Option (List ℕ)) (bytes : List ℕ) (r : Result Reply Trouble)
    → IfSome left (λ xs. bytes ≡ xs)
    → IfErr r (λ t. ((t ≡ NotText) × (¬ IsUtf8 (text_read opencl bytes))) ⊎ (t ≡ Memory))
    → IfErr r (λ t. (t ≡ File) ⊎ ((t ≡ NotText) × IfSome left (λ xs. ¬ IsUtf8 (text_read opencl xs))) ⊎ (t ≡ Memory))
text_reason opencl left bytes (Ok a) k h = tt
text_reason opencl left bytes (Err t) k (inl e) =
    inr (inl (e.0, all_known left bytes (λ xs. ¬ IsUtf8 (text_read opencl xs)) k e.1))
text_reason opencl left bytes (Err t) k (inr e) = inr (inr e)

-- a reason is no failed call
not_failed : (c : Command) (G : Table) (bytes : List ℕ) (t : Trouble) → WhyNot c G bytes t → t ≢ File
not_failed c G bytes t (inl e) f = let n = e.0 in cc
not_failed c G bytes t (inr (inl e)) f = let n = e.0 in cc
not_failed c G bytes t (inr (inr (inl e))) f = let n = e.0 in cc
not_failed c G bytes t (inr (inr (inr (inl e)))) f = let n = e.0 in cc
not_failed c G bytes t (inr (inr (inr (inr e)))) f = cc

pub none_failed : (c : Command) (G : Table) (bytes : List ℕ) (r : Result Reply Trouble) → IfErr r (WhyNot c G bytes)
    → ¬ (IsErrOf r File)
none_failed c G bytes (Ok a) h e = cc
none_failed c G bytes (Err t) h e = let f : t ≡ File = cc in not_failed c G bytes t h f
