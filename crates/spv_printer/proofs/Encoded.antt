-- What an encoder keeps over the instructions of a module.
use Rattle.std.proofs.Common.{◌≡◌, ◌++◌, ◌∙◌, ◌<◌, ◌≤◌, ◌+◌, ℕ, List, [], ◌∷◌, map, length, take, drop, get_or, refl}
use Rattle.std.proofs.Common.{sym, ap, arith, append_assoc, append-nil, length-append}
use Rattle.std.proofs.lemmas.List.{drop_more, take_more, length-take-le, take-append-drop}
use Rattle.std.proofs.Math.ListN.{drop_of_length-le}
use Rattle.spv_words.specs.declared.words.Header.{Header}
use Rattle.spv_words.specs.Header.{IsHeader, greatest_length}
use Rattle.spv_table.specs.Table.{Table}
use Rattle.spv_inst.specs.declared.definitions.Definitions.{Definitions}
use Rattle.spv_module.specs.declared.module.Inst.{Inst}
use Rattle.spv_module.specs.declared.module.Module.{Module}
use Rattle.spv_printer.specs.declared.encode_error.EncodeCode.{EncodeCode}
use Rattle.spv_printer.specs.declared.encode_error.EncodeCode.TheVariants.{N1, N2, N3, Memory}
use Rattle.spv_module.specs.Operand.{PlainInst}
use Rattle.spv_module.specs.Module.{plain_inst, plain_insts}
use Rattle.spv_module.specs.Instruction.{IsInstruction, Listing, IsListing}
use Rattle.spv_inst.specs.inner.Known.{Knows}
use Rattle.spv_inst.specs.Outcome.{IsHeaderOf}
use Rattle.spv_inst.specs.Limits.{HeaderFits}
use Rattle.spv_printer.specs.Encoding.{Prevents, StopsAt, RefusesModule}
use Rattle.spv_inst.specs.inner.Written.{header_words}
use Rattle.spv_printer.specs.inner.Written.{Adds, IsWritten, PreventsOrMemory, told}

-- one instruction more
pub listing_more : (G : Table) (b is : List PlainInst) (ws : List ℕ) (i : PlainInst) (vs : List ℕ) → Listing G b is ws
    → IsInstruction G (b ++ is) i vs → Listing G b (is ++ (i ∷ [])) (ws ++ vs)
listing_more G _ _ _ i vs (Listing.end b) a =
    let a' : IsInstruction G b i vs = rw append-nil at a in
    rw (← append-nil vs) (Listing.more b i [] vs [] a' (Listing.end (b ++ (i ∷ []))))
listing_more G _ _ _ i vs (Listing.more b j is us ws h l) a =
    let a' : IsInstruction G ((b ++ (j ∷ [])) ++ is) i vs = rw (append_assoc b (j ∷ []) is) a in
    rw (append_assoc us ws vs) (Listing.more b j (is ++ (i ∷ [])) us (ws ++ vs) h
    (listing_more G (b ++ (j ∷ [])) is ws i vs l a'))

-- Before the instruction of that number: what is known, and the words written.
pub record Put (G : Table) (insts : List Inst) (d : Definitions) (header : Header) (draft : List ℕ)
    (i : ℕ) : Type 0 where
  pub words : List ℕ
  pub all : draft ≡ header_words header ++ words
  pub spelled : IsListing G (map plain_inst (take i insts)) words
  pub knows : Knows d (map plain_inst (take i insts))
  pub short : length draft ≤ greatest_length
  pub many : i ≤ length words

pub put_first : (G : Table) (insts : List Inst) (d : Definitions) (header : Header) (draft : List ℕ)
    → draft ≡ header_words header → Knows d [] → Put G insts d header draft 0
put_first G insts d header draft e k = record {
  words = [];
  all = e;
  spelled = Listing.end [];
  knows = k;
  short = rw e (omega arith);
  many = omega arith;
}

-- the number of words so far
pub put_length : (G : Table) (insts : List Inst) (d : Definitions) (header : Header) (draft : List ℕ) (i : ℕ)
    → (p : Put G insts d header draft i) → length draft ≡ 5 + length p.words
put_length G insts d header draft i p = ap length p.all ∙ omega arith

one_at_least : (G : Table) (b : List PlainInst) (i : PlainInst) (ws : List ℕ) → IsInstruction G b i ws → 1 ≤ length ws
one_at_least G b i ws a = let e = a.spelled in rw e (omega arith)

map_snoc : (xs : List Inst) (o : Inst) → map plain_inst (xs ++ (o ∷ [])) ≡ map plain_inst xs ++ (plain_inst o ∷ [])
map_snoc [] o = refl
map_snoc (x ∷ xs) o = ap (λ zs. plain_inst x ∷ zs) (map_snoc xs o)

so_far : (insts : List Inst) (i : ℕ) (o x : Inst) → i < length insts → o ≡ get_or insts i x
    → map plain_inst (take (i + 1) insts) ≡ map plain_inst (take i insts) ++ (plain_inst o ∷ [])
so_far insts i o x h e = let f = take_more insts i x h in rw (f, ← e) (map_snoc (take i insts) o)

pub put_step : (G : Table) (insts : List Inst) (d next : Definitions) (header : Header) (draft more : List ℕ) (i : ℕ)
    (o x : Inst) → Put G insts d header draft i
    → i < length insts → o ≡ get_or insts i x → Adds G (map plain_inst (take i insts)) (plain_inst o) draft more
    → Knows next (map plain_inst (take i insts) ++ (plain_inst o ∷ [])) → length more ≤ greatest_length
    → Put G insts next header more (i + 1)
put_step G insts d next header draft more i o x p h e a k l =
    let s = so_far insts i o x h e in
    let m = listing_more G [] (map plain_inst (take i insts)) p.words (plain_inst o) a.words p.spelled a.spelled in
    let n = one_at_least G (map plain_inst (take i insts)) (plain_inst o) a.words a.spelled in
    let q = length-append p.words a.words in
    let r = p.many in
    record {
      words = p.words ++ a.words;
      all = a.all ∙ (ap (λ zs. zs ++ a.words) p.all ∙ append_assoc (header_words header) p.words a.words);
      spelled = rw s m;
      knows = rw s k;
      short = l;
      many = omega arith;
    }

-- after the last instruction
pub put_done : (G : Table) (m : Module) (d : Definitions) (draft : List ℕ) (i : ℕ)
    → Put G m.insts.items d m.header draft i → length m.insts.items ≤ i → IsWritten G m draft
put_done G m d draft i p h =
    let t : take i m.insts.items ≡ m.insts.items = take_all m.insts.items i h in
    let s : IsListing G (plain_insts m) p.words = rw t at p.spelled in
    let a = p.all in
    record { front = rw a refl; spelled = rw a s; short = p.short }
  where
    take_all : (xs : List Inst) (n : ℕ) → length xs ≤ n → take n xs ≡ xs
    take_all xs n h = let e = take-append-drop n xs in let f = drop_of_length-le xs h in rw (f, append-nil) at e

map_length : (xs : List Inst) → length (map plain_inst xs) ≡ length xs
map_length [] = refl
map_length (x ∷ xs) = omega (arith, map_length xs)

map_append : (xs ys : List Inst) → map plain_inst (xs ++ ys) ≡ map plain_inst xs ++ map plain_inst ys
map_append [] ys = refl
map_append (x ∷ xs) ys = ap (λ zs. plain_inst x ∷ zs) (map_append xs ys)

whole : (insts : List Inst) (i : ℕ) (o x : Inst) → i < length insts → o ≡ get_or insts i x
    → map plain_inst insts ≡ map plain_inst (take i insts) ++ (plain_inst o ∷ map plain_inst (drop (i + 1) insts))
whole insts i o x h e =
    let f = drop_more insts i x h in
    let g : insts ≡ take i insts ++ drop i insts = sym (take-append-drop i insts) in
    let k : drop i insts ≡ o ∷ drop (i + 1) insts = rw (f, ← e) refl in
    ap (map plain_inst) g ∙ (map_append (take i insts) (drop i insts)
    ∙ ap (λ zs. map plain_inst (take i insts) ++ map plain_inst zs) k)

stops : (G : Table) (m : Module) (d : Definitions) (draft : List ℕ) (i : ℕ) (o x : Inst) (code : EncodeCode)
    → Put G m.insts.items d m.header draft i → i < length m.insts.items → o ≡ get_or m.insts.items i x
    → Prevents code G (map plain_inst (take i m.insts.items)) (length draft) (plain_inst o)
    → StopsAt G (plain_insts m) code i
stops G m d draft i o x code p h e s =
    let n = put_length G m.insts.items d m.header draft i p in
    let q = p.short in
    record {
      before = map plain_inst (take i m.insts.items);
      inst = plain_inst o;
      later = map plain_inst (drop (i + 1) m.insts.items);
      words = p.words;
      all = whole m.insts.items i o x h e;
      number = map_length (take i m.insts.items) ∙ length-take-le i m.insts.items (omega arith);
      spelled = p.spelled;
      short = omega arith;
      prevented = rw n at s;
    }

-- an instruction that is hindered, or that memory ran out
pub put_refused : (G : Table) (m : Module) (d : Definitions) (draft : List ℕ) (i : ℕ) (o x : Inst) (code : EncodeCode)
    → Put G m.insts.items d m.header draft i → HeaderFits m.header → i < length m.insts.items
    → o ≡ get_or m.insts.items i x
    → PreventsOrMemory code G (map plain_inst (take i m.insts.items)) (length draft) (plain_inst o)
    → RefusesModule code G m (told code i)
put_refused G m d draft i o x N1 p f h e s = absurd s
put_refused G m d draft i o x N2 p f h e s = (f, stops G m d draft i o x N2 p h e s)
put_refused G m d draft i o x N3 p f h e s = (f, stops G m d draft i o x N3 p h e s)
put_refused G m d draft i o x Memory p f h e s = refl

-- the header of what is written
pub written_header : (G : Table) (m : Module) (words : List ℕ) → IsWritten G m words → IsHeaderOf words m.header
written_header G m words w = let f = w.front in
    rw f (record { version = refl; generator = refl; bound = refl; schema = refl })

pub written_fits : (G : Table) (m : Module) (words : List ℕ) → IsWritten G m words → HeaderFits m.header
    → IsHeader words
written_fits G m words w f =
    let e = w.front in
    rw e (record {
      five = omega arith;
      magic = refl;
      version = f.version;
      bound_least = f.bound_least;
      bound_most = f.bound_most;
      schema = f.schema;
    })
