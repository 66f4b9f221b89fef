-- What is kept while a line is read up to where it stops: the operands so far, and that what stops behind them stops
-- the line.
use Rattle.std.proofs.Common.{◌≡◌, ◌≢◌, ◌++◌, ◌∙◌, inl, inr, ◌<◌, ◌≤◌, ◌+◌, ◌^◌, ℕ, zero, suc, List, [], ◌∷◌, Option}
use Rattle.std.proofs.Common.{Some, None, Bool, true, false, length, map, option_map, refl, sym, ap, arith}
use Rattle.std.proofs.Common.{length-append, nat_eq, ◌&&◌, option_and_then}
use Rattle.std.specs.Prelude.{slice_get, unwrap_or, Result as Answer, Ok, Err, ◌==◌, IfOk, MatchOption}
use Rattle.std.specs.declared.alloc.AllocError.{AllocError}
use Rattle.spv_parser.specs.declared.text_reason.TextReason.{TextReason}
use Rattle.std.specs.List.{list_any}
use Rattle.std.proofs.lemmas.Bool.Decides.{nat_tests}
use Rattle.spv_table.specs.declared.table.Entry.{Entry}
use Rattle.spv_table.specs.Table.{Table, Item, pattern_of, kind_of}
use Rattle.spv_table.specs.declared.form.Leaf as declared
use Rattle.spv_table.specs.declared.form.Leaf.TheVariants as leaf
use Rattle.spv_table.specs.declared.form.Form.TheVariants.{Leaf}
use Rattle.spv_table.specs.inner.Form.{form_at}
use Rattle.spv_module.specs.declared.opcode.TheConstants.{SWITCH}
use Rattle.spv_module.specs.Width.{width_of, type_of, first_id, context_width, switch_width}
use Rattle.spv_inst.specs.Reading.{enumerants_at}
use Rattle.spv_inst.proofs.Shapes.{leaf_shape, shape_leaf}
use Rattle.spv_lines.specs.Operand.{is_float, is_float_type}
use Rattle.spv_lines.proofs.NumberTypes.{type_by_switch}
use Rattle.spv_module.specs.Operand.{Plain, PlainInst, Context, start, result_in, type_in}
use Rattle.spv_module.specs.Shape.{Slot, alone, shape_of}
use Rattle.spv_module.specs.Refusal.{IsLeaf}
use Rattle.spv_module.specs.Instruction.{first_word}
use Rattle.spv_words.specs.declared.words.Header.{Header}
use Rattle.spv_words.specs.Header.{greatest_length}
use Rattle.spv_inst.specs.Limits.{HeaderFits}
use Rattle.spv_inst.specs.Flat.{Due, OneOf, MaybeOf, ManyOf, due}
use Rattle.spv_inst.specs.inner.Pending.{settled, Opens, LeadsTo, opened_kinds}
use Rattle.spv_inst.specs.inner.Known.{Knows}
use Rattle.spv_inst.specs.declared.definitions.Definitions.{Definitions}
use Rattle.spv_lines.specs.declared.asm_error.AsmCode.{AsmCode}
use Rattle.spv_lines.specs.declared.asm_error.AsmCode.TheVariants.{S1, S2, S3, S4, S5, S6}
use Rattle.spv_lines.specs.Digits.{IsLarge}
use Rattle.spv_lines.specs.Text.{IsReadText, header_lines, lines_of}
use Rattle.spv_lines.specs.Line.{Parts, parts_of, parts_behind, before_space, from_space, IsInstName}
use Rattle.spv_lines.specs.Refusal.{IsBreak, SlotRefuses, OperandsFail}
use Rattle.spv_lines.specs.Fault.{IsResult, ResultFails, LineFails, LinesFail, must_have_result, may_have_result}
use Rattle.spv_lines.specs.Fault.{HeaderLine, number_of, line_at, HeaderFails, IsFailure}
use Rattle.spv_lines.specs.declared.misread.Misread.TheVariants.{IllFormed, TooLarge}
use Rattle.spv_lines.specs.inner.Answer.{IsBehind}
use Rattle.spv_parser.specs.Reason.{Stop, Reason, plain_reason, behind_space, word_behind, wanted_number, wanted_as}
use Rattle.spv_parser.specs.Reason.{wanted_at, FailsFor}
use Rattle.spv_parser.specs.declared.text_reason.Wanted.{Wanted}
use Rattle.spv_parser.specs.declared.text_reason.Wanted.TheVariants as wanted
use Rattle.spv_parser.specs.declared.operands.Known.{Known}
use Rattle.spv_parser.specs.declared.operands.Line.{Line}
use Rattle.spv_parser.specs.inner.Kept.{IsOfOperands}
use Rattle.spv_parser.specs.inner.Lines.{HasLine, HasLines, IsTooLongOr}
use Rattle.spv_parser.specs.inner.Reading.{IsLine, IsStep, RefusesOr, context_of}
use Rattle.spv_parser.specs.inner.Stopping.{StopsAt, LacksResult, LineStopsAt, LinesFailFor, HasFront, HaveOutcome}
use Rattle.spv_parser.specs.inner.Stopping.{HasOutcome, IsTakenOr, IsLeft, StopIn, plain_stop}
use Rattle.spv_parser.specs.declared.stops.Stop as declared_stops
use Rattle.spv_parser.specs.declared.stops.Outcome.{Outcome}
use Rattle.spv_parser.specs.declared.stops.Outcome.TheVariants.{Read, Stopped}
use Rattle.spv_parser.proofs.LineRead.{line_read, result_text}
use Rattle.spv_parser.proofs.Gathered.{five_words, text_read}
use Rattle.spv_parser.proofs.Taken.{spaced, float_context, switch_at}
use Rattle.spv_parser.proofs.Walks.{IsMore, step_more, is_true, none_due}

pub record StopSoFar (G : Table) (r : Option ℕ) (before : List PlainInst) (opcode : ℕ) (pattern : List Due)
    (line : List ℕ) (kept : Known) (ds : List Due) (t : List ℕ) : Type 0 where
  pub operands : List Plain
  pub known : IsOfOperands kept opcode operands
  pub broken : IsBreak t
  pub stops : (code : AsmCode) (x : Stop) → StopsAt G r (context_of before opcode operands) ds t code x
      → StopsAt G r (start before opcode) pattern line code x

pub stop_first : (G : Table) (r : Option ℕ) (before : List PlainInst) (opcode : ℕ) (pattern ds : List Due)
    (line : List ℕ) (known : Known) → ds ≡ pattern → IsBreak line → IsOfOperands known opcode []
    → StopSoFar G r before opcode pattern line known ds line
stop_first G r before opcode pattern ds line known e b i =
    rw e (record { operands = []; known = i; broken = b; stops = λ code x m. m })

-- what is due where something is left
settled_stops : (G : Table) (r : Option ℕ) (c : Context) (ds : List Due) (t : List ℕ) (code : AsmCode) (x : Stop)
    → IsMore true r c t → StopsAt G r c (settled true ds) t code x → StopsAt G r c ds t code x
settled_stops G r c [] t code x n m = m
settled_stops G r c (OneOf s ∷ ds) t code x n m = m
settled_stops G r c (MaybeOf s ∷ ds) t code x n m =
    record { failure = OperandsFail.maybe c s ds t code n m.failure; tells = m.tells }
settled_stops G r c (ManyOf s ∷ ds) t code x n m =
    record { failure = OperandsFail.many c s ds t code n m.failure; tells = m.tells }

-- what is due where nothing is left
absent_stops : (G : Table) (r : Option ℕ) (c : Context) (ds : List Due) (code : AsmCode) (x : Stop)
    → r ≡ result_in c.operands → StopsAt G r c (settled false ds) [] code x → StopsAt G r c ds [] code x
absent_stops G r c [] code x n m = m
absent_stops G r c (OneOf s ∷ ds) code x n m = m
absent_stops G r c (MaybeOf s ∷ ds) code x n m =
    let k = absent_stops G r c ds code x n m in
    record { failure = OperandsFail.no_maybe c s ds code (λ p. p n) k.failure; tells = k.tells }
absent_stops G r c (ManyOf s ∷ ds) code x n m =
    let k = absent_stops G r c ds code x n m in
    record { failure = OperandsFail.no_many c s ds code (λ p. p n) k.failure; tells = k.tells }

any_stops : (G : Table) (r : Option ℕ) (c : Context) (ds : List Due) (t : List ℕ) (code : AsmCode) (x : Stop)
    (more : Bool) → IsMore more r c t → StopsAt G r c (settled more ds) t code x → StopsAt G r c ds t code x
any_stops G r c ds t code x true n m = settled_stops G r c ds t code x n m
any_stops G r c ds t code x false n m =
    let m' : StopsAt G r c (settled false ds) [] code x = rw n.0 at m in
    rw n.0 (absent_stops G r c ds code x n.1 m')

-- a leaf in the place of what is due
opened_stops : (G : Table) (r : Option ℕ) (c : Context) (s : Slot) (ds es : List Due) → Opens G s ds es
    → (t : List ℕ) (code : AsmCode) (x : Stop) → StopsAt G r c es t code x → StopsAt G r c (OneOf s ∷ ds) t code x
opened_stops G r c s ds _ Opens.leaf t code x m = m
opened_stops G r c s ds _ (Opens.parts ss e) t code x m =
    record { failure = OperandsFail.parts c s ds ss t code (e c) m.failure; tells = m.tells }

leads_stops : (G : Table) (r : Option ℕ) (c : Context) (ds : List Due) (s : Slot) (es : List Due) (more : Bool)
    (t : List ℕ) (code : AsmCode) (x : Stop) → LeadsTo G (settled more ds) s es → IsMore more r c t
    → StopsAt G r c (OneOf s ∷ es) t code x → StopsAt G r c ds t code x
leads_stops G r c ds s es more t code x l n m =
    any_stops G r c ds t code x more n (rw l.first
    (opened_stops G r c l.slot l.rest (OneOf s ∷ es) l.opened t code x m))

pub stop_more : (G : Table) (r : Option ℕ) (before : List PlainInst) (opcode : ℕ) (pattern ds es later : List Due)
    (line t rest words new : List ℕ) (known next : Known) (s : Slot) (more : Bool)
    → (a : StopSoFar G r before opcode pattern line known ds t) → IsMore more r (context_of before opcode a.operands) t
    → LeadsTo G (settled more ds) s es
    → IsStep G r (context_of before opcode a.operands) s t rest next words new es later
    → StopSoFar G r before opcode pattern line next later rest
stop_more G r before opcode pattern ds es later line t rest words new known next s more a n l h =
    let c = context_of before opcode a.operands in
    let o = h.operand in
    let m = step_more G r c s o h.stands.piece t rest h.stands.written h.stands.all in
    let e = is_true more r c t n m in
    let l' : LeadsTo G (settled true ds) s es = rw e at l in
    let slots = map alone (opened_kinds G o) in
    rw h.due (record {
      operands = a.operands ++ (o ∷ []);
      known = h.known;
      broken = h.stands.broken;
      stops = λ code x k. a.stops code x (leads_stops G r c ds s es true t code x l' m
          (record { failure = OperandsFail.after c s es o slots t rest code h.stands k.failure; tells = k.tells }));
    })

-- a leaf that refuses the rest
pub stop_refused : (G : Table) (r : Option ℕ) (before : List PlainInst) (opcode : ℕ) (pattern ds es : List Due)
    (line t : List ℕ) (known : Known) (s : Slot) (more : Bool) (code : AsmCode) (x : Stop)
    → (a : StopSoFar G r before opcode pattern line known ds t) → IsMore more r (context_of before opcode a.operands) t
    → LeadsTo G (settled more ds) s es → StopsAt G r (context_of before opcode a.operands) (OneOf s ∷ es) t code x
    → StopsAt G r (start before opcode) pattern line code x
stop_refused G r before opcode pattern ds es line t known s more code x a n l h =
    a.stops code x (leads_stops G r (context_of before opcode a.operands) ds s es more t code x l n h)

-- what is left over
pub stop_left : (G : Table) (r : Option ℕ) (before : List PlainInst) (opcode : ℕ) (pattern ds : List Due)
    (line t : List ℕ) (known : Known) (more : Bool) (code : AsmCode) (x : Stop)
    → (a : StopSoFar G r before opcode pattern line known ds t) → IsMore more r (context_of before opcode a.operands) t
    → settled more ds ≡ [] → more ≡ true
    → ((c : Context) → IsLeft r c t → StopsAt G r c [] t code x) → StopsAt G r (start before opcode) pattern line code x
stop_left G r before opcode pattern ds line t known more code x a n e f h =
    let c = context_of before opcode a.operands in
    let n' : IsMore true r c t = rw f at n in
    let e' : settled true ds ≡ [] = rw f at e in
    let d = none_due ds e' in
    a.stops code x (rw d (h c n'))

pub refuses_by : (G : Table) (r : Option ℕ) (c : Context) (s : Slot) (t : List ℕ) (code : AsmCode) → code ≢ S6
    → RefusesOr G r c s t code → SlotRefuses G r c s t code
refuses_by G r c s t S1 n h = h
refuses_by G r c s t S2 n h = h
refuses_by G r c s t S3 n h = h
refuses_by G r c s t S4 n h = h
refuses_by G r c s t S5 n h = h
refuses_by G r c s t S6 n h = absurd (n refl)

pub stop_at_slot : (G : Table) (r : Option ℕ) (c : Context) (s : Slot) (ds : List Due) (t rest : List ℕ) (w : Wanted)
    (code : AsmCode) → IsLeaf (shape_of G c s) → SlotRefuses G r c s t code → rest ≡ behind_space t
    → w ≡ wanted_at G c s
    → StopsAt G r c (OneOf s ∷ ds) t code (record { rest = rest; wanted = w })
stop_at_slot G r c s ds t rest w code l f e g =
    rw (e, g) (record { failure = OperandsFail.refused c s ds t code l f; tells = refl })

pub left_unused : (G : Table) (r : Option ℕ) (c : Context) (t : List ℕ) (b : Bool) → b ≡ (length t == 0) → b ≡ true
    → IsLeft r c t → StopsAt G r c [] t S3 (record { rest = t; wanted = wanted.NoResult })
left_unused G r c [] b e f (inl n) = absurd (n refl)
left_unused G r c [] b e f (inr n) = record { failure = OperandsFail.unused c n; tells = refl }
left_unused G r c (x ∷ t) b e f n = let z : true ≡ (suc (length t) == 0) = sym f ∙ e in absurd (no_suc (length t) z)
  where
    no_suc : (n : ℕ) → true ≡ (suc n == 0) → ⊥
    no_suc n e = grind (arith, nat_tests)

pub left_going : (G : Table) (r : Option ℕ) (c : Context) (t rest : List ℕ) (b : Bool) → b ≡ (length t == 0) → b ≡ false
    → rest ≡ word_behind t → StopsAt G r c [] t S3 (record { rest = rest; wanted = wanted.End })
left_going G r c [] rest b e f g = let z : false ≡ true = sym f ∙ e in cc
left_going G r c (x ∷ t) rest b e f g = rw g (record { failure = OperandsFail.left c x t; tells = refl })

-- what stands in front
pub has_so : {X : Type 0} (f : X → List ℕ) (G : Table) (c : Context) (is : List Item) (o : Option X)
    (p : Option (List ℕ)) (r : Answer (Option ℕ) Rattle.spv_parser.specs.declared.stops.Lack.Lack) → option_map f o ≡ p
    → HasFront G c is p r
    → HasFront G c is (option_map f o) r
has_so f G c is o p r e h = rw e h

pub lacks_missing : (G : Table) (c : Context) (is : List Item) → list_any (must_have_result G c) is ≡ true
    → LacksResult G c is None S3 wanted.Result
lacks_missing G c is e = record { failure = ResultFails.missing e; tells = refl }

pub lacks_none : (G : Table) (c : Context) (is : List Item) (t : List ℕ) → list_any (may_have_result G c) is ≡ false
    → LacksResult G c is (Some t) S3 wanted.NoResult
lacks_none G c is t e = record { failure = ResultFails.too_many t e; tells = refl }

pub lacks_ill : (G : Table) (c : Context) (is : List Item) (t : List ℕ) → list_any (may_have_result G c) is ≡ true
    → IsBehind 37 t (Err IllFormed) → LacksResult G c is (Some t) S3 wanted.ResultId
lacks_ill G c is t e b = record { failure = ResultFails.ill_formed t (λ ds f l. b ds f l.number); tells = rw e refl }

lacks_so : (G : Table) (c : Context) (is : List Item) (t ds : List ℕ) → t ≡ 37 ∷ ds
    → list_any (may_have_result G c) is ≡ true → IsLarge (2 ^ 32) ds → LacksResult G c is (Some t) S4 wanted.ResultId
lacks_so G c is t ds e f l = rw e (record { failure = ResultFails.large ds f l; tells = refl })

pub lacks_large : (G : Table) (c : Context) (is : List Item) (t : List ℕ) → list_any (may_have_result G c) is ≡ true
    → IsBehind 37 t (Err TooLarge) → LacksResult G c is (Some t) S4 wanted.ResultId
lacks_large G c is t e b = lacks_so G c is t b.0 b.1 e b.2

-- a line
pub line_undivided_stops : (G : Table) (before : List PlainInst) (written : ℕ) (line rest : List ℕ)
    → parts_of line ≡ None → rest ≡ word_behind (from_space line)
    → LineStopsAt G before written line S2 (record { rest = rest; wanted = wanted.Equals })
line_undivided_stops G before written line rest e f = rw f (record { failure = LineFails.undivided e; tells = refl })

pub line_unnamed_stops : (G : Table) (before : List PlainInst) (written : ℕ) (line text : List ℕ)
    (front : Option (List ℕ)) → parts_of line ≡ Some (parts_behind front text)
    → ((opcode : ℕ) (entry : Entry) → IsInstName G (before_space text) opcode entry → ⊥)
    → LineStopsAt G before written line S2 (record { rest = text; wanted = wanted.Name })
line_unnamed_stops G before written line text front e n =
    let f = (spaced text).all in
    record {
      failure = LineFails.name (parts_behind front text) e n;
      tells = ap (λ t. record { rest = t; wanted = wanted.Name }) (sym f);
    }

pub line_result_stops : (G : Table) (before : List PlainInst) (written : ℕ) (line : List ℕ) (P : Parts) (opcode : ℕ)
    (entry : Entry) (code : AsmCode) (w : Wanted) → parts_of line ≡ Some P → IsInstName G P.name opcode entry
    → LacksResult G (start before opcode) (pattern_of entry) P.result code w
    → LineStopsAt G before written line code (record { rest = line; wanted = w })
line_result_stops G before written line P opcode entry code w e n h =
    record {
      failure = LineFails.result P opcode entry code e n h.failure;
      tells = ap (λ v. record { rest = line; wanted = v }) h.tells;
    }

pub line_operands_stop : (G : Table) (before : List PlainInst) (written : ℕ) (line : List ℕ) (P : Parts) (opcode : ℕ)
    (entry : Entry) (r : Option ℕ) (code : AsmCode) (x : Stop) → parts_of line ≡ Some P
    → IsInstName G P.name opcode entry
    → IsResult P.result r × ((wrong : AsmCode)
    → ¬ (ResultFails G (start before opcode) (pattern_of entry) P.result wrong))
    → StopsAt G r (start before opcode) (map due (pattern_of entry)) P.operands code x
    → LineStopsAt G before written line code x
line_operands_stop G before written line P opcode entry r code x e n f h =
    record { failure = LineFails.operands P opcode entry r code e n f.1 f.0 h.failure; tells = h.tells }

pub line_long_stops : (G : Table) (before : List PlainInst) (line further : List ℕ) (written : ℕ) (kept : Line)
    (code : AsmCode) → code ≢ S6 → IsLine G before line further kept → IsTooLongOr further written code
    → LineStopsAt G before written line code (record { rest = line; wanted = wanted.Shorter })
line_long_stops G before line further written kept S1 n l h = absurd h
line_long_stops G before line further written kept S2 n l h = absurd h
line_long_stops G before line further written kept S3 n l h = absurd h
line_long_stops G before line further written kept S4 n l h = absurd h
line_long_stops G before line further written kept S5 n l h =
    record { failure = LineFails.long l.inst further l.read h; tells = refl }
line_long_stops G before line further written kept S6 n l h = absurd (n refl)

-- lines
pub record StopsSoFar (G : Table) (lines : List (List ℕ)) (draft : List ℕ) (kept : Definitions) (left : List (List ℕ))
    (number : ℕ) : Type 0 where
  pub insts : List PlainInst
  pub definitions : Knows kept insts
  pub stops : (code : AsmCode) (n : ℕ) (x : Reason) → LinesFailFor G insts (length draft) left code n x
      → LinesFailFor G [] 5 lines code (number + n) x

pub stops_first : (G : Table) (lines : List (List ℕ)) (draft : List ℕ) (definitions : Definitions) → length draft ≡ 5
    → Knows definitions [] → StopsSoFar G lines draft definitions lines 0
stops_first G lines draft definitions e k = record {
  insts = [];
  definitions = k;
  stops = λ code n x m. let m' : LinesFailFor G [] 5 lines code n x = rw e at m in let z : 0 + n ≡ n = omega arith in
      rw z m';
}

fail_later : (G : Table) (before : List PlainInst) (written : ℕ) (line : List ℕ) (lines : List (List ℕ))
    (code : AsmCode) (n : ℕ) (i : PlainInst) (further : List ℕ) (x : Reason)
    → Rattle.spv_lines.specs.Line.IsReadLine G before i further line
    → length further + 1 ≤ Rattle.spv_inst.specs.Limits.greatest_count
    → written + (length further + 1) ≤ greatest_length
    → LinesFailFor G (before ++ (i ∷ [])) (written + (length further + 1)) lines code n x
    → LinesFailFor G before written (line ∷ lines) code (suc n) x
fail_later G before written line lines code n i further x h k l m =
    record { failure = LinesFail.later before written line lines code n i further h k l m.failure; tells = m.tells }

pub stops_more : (G : Table) (lines : List (List ℕ)) (draft new : List ℕ) (definitions next : Definitions)
    (octets : List ℕ) (left rest : List (List ℕ)) (number : ℕ) (line : Line)
    (a : StopsSoFar G lines draft definitions left number)
    → left ≡ octets ∷ rest → (h : HasLine G a.insts octets draft new line) → Knows next (a.insts ++ (h.line.inst ∷ []))
    → StopsSoFar G lines new next rest (number + 1)
stops_more G lines draft new definitions next octets left rest number line a e h k =
    let i = h.line.inst in
    let w = first_word line.opcode h.further ∷ h.further in
    let n = length-append draft w in
    let g : length new ≡ length draft + (length h.further + 1) = ap length h.words ∙ (omega (arith, n)) in
    record {
      insts = a.insts ++ (i ∷ []);
      definitions = k;
      stops = λ code m x f.
          let f' : LinesFailFor G (a.insts ++ (i ∷ []))
          (length draft + (length h.further + 1)) rest code m x = rw g at f in
          let q = fail_later G a.insts (length draft) octets rest code m i h.further x h.line.read h.count h.short f' in
          let q' : LinesFailFor G a.insts (length draft) left code (suc m) x = rw e q in
          let z : number + suc m ≡ (number + 1) + m = omega arith in
          rw (← z) (a.stops code (suc m) x q');
    }

pub stops_here : (G : Table) (lines : List (List ℕ)) (draft : List ℕ) (definitions : Definitions) (line : List ℕ)
    (left rest : List (List ℕ)) (number : ℕ) (code : AsmCode) (x : Stop)
    (a : StopsSoFar G lines draft definitions left number)
    → left ≡ line ∷ rest → LineStopsAt G a.insts (length draft) line code x
    → (n : ℕ) × (number + 6 ≡ 6 + n) × LinesFailFor G [] 5 lines code n (record { line = line; stop = x })
stops_here G lines draft definitions line left rest number code x a e h =
    let q : LinesFailFor G a.insts (length draft) (line ∷ rest) code 0 (record { line = line; stop = x }) =
    record {
      failure = LinesFail.here a.insts (length draft) line rest code h.failure;
      tells = ap (λ s. record { line = line; stop = s }) h.tells;
    } in
    let q' : LinesFailFor G a.insts (length draft) left code 0 (record { line = line; stop = x }) = rw e q in
    let z : number + 0 ≡ number = omega arith in
    (number, omega arith, rw z at (a.stops code 0 (record { line = line; stop = x }) q'))

-- the whole text
line_numbered : (ls : List (List ℕ)) (l : HeaderLine) (n m : ℕ) → number_of l ≡ n → n ≡ suc m
    → line_at ls l ≡ slice_get ls m
line_numbered ls HeaderLine.Magic n m e f = let z : m ≡ 0 = omega arith in rw z refl
line_numbered ls HeaderLine.Version n m e f = let z : m ≡ 1 = omega arith in rw z refl
line_numbered ls HeaderLine.Generator n m e f = let z : m ≡ 2 = omega arith in rw z refl
line_numbered ls HeaderLine.Bound n m e f = let z : m ≡ 3 = omega arith in rw z refl
line_numbered ls HeaderLine.Schema n m e f = let z : m ≡ 4 = omega arith in rw z refl

pub number_least : (l : HeaderLine) → 1 ≤ number_of l
number_least HeaderLine.Magic = omega arith
number_least HeaderLine.Version = omega arith
number_least HeaderLine.Generator = omega arith
number_least HeaderLine.Bound = omega arith
number_least HeaderLine.Schema = omega arith

abbrev pub header_at : List ℕ → ℕ → Reason
header_at line n = record { line = line; stop = record { rest = line; wanted = wanted.HeaderLine n } }

header_told : (a b : List ℕ) (p q : ℕ) → a ≡ b → p ≡ q → header_at a p ≡ header_at b q
header_told a b p q e f = rw (e, f) refl

pub header_fails_for : (G : Table) (t line : List ℕ) (code : AsmCode) (n m : ℕ) (h : HeaderFails (lines_of t) code n)
    → n ≡ suc m → line ≡ unwrap_or (slice_get (lines_of t) m) [] → FailsFor G t code n (header_at line n)
header_fails_for G t line code n m h f g =
    let e = line_numbered (lines_of t) h.line n m h.number f in
    let k : unwrap_or (line_at (lines_of t) h.line) [] ≡ line = ap (λ o. unwrap_or o []) e ∙ sym g in
    record {
      failure = IsFailure.header code n h;
      tells = header_told (unwrap_or (line_at (lines_of t) h.line) []) line (number_of h.line) n k h.number;
    }

pub header_least : (ls : List (List ℕ)) (code : AsmCode) (n : ℕ) → HeaderFails ls code n → (m : ℕ) × (n ≡ suc m)
header_least ls code n h = let l = number_least h.line in let e = h.number in least n (omega arith)
  where
    least : (n : ℕ) → 1 ≤ n → (m : ℕ) × (n ≡ suc m)
    least zero l = absurd (omega arith)
    least (suc m) l = (m, refl)

pub text_fails_for : (G : Table) (t : List ℕ) (h : Header) (rest : List (List ℕ)) (code : AsmCode) (line : ℕ)
    (x : Reason) → HeaderFits h → h.generator < 2 ^ 32 → lines_of t ≡ header_lines h ++ rest
    → (n : ℕ) × (line ≡ 6 + n) × LinesFailFor G [] 5 rest code n x → FailsFor G t code line x
text_fails_for G t h rest code line x f g e l =
    rw l.1 (record { failure = IsFailure.line h rest code l.0 f g e l.2.failure; tells = l.2.tells })

-- what a leaf wants
pub wanted_leaf : (G : Table) (c : Context) (s : Slot) (k l : declared.Leaf) (w : Wanted)
    → form_at (kind_of G s.kind) ≡ Leaf k → k ≡ l
    → w ≡ wanted_as (is_float G c s) s.kind (leaf_shape c s.paired (enumerants_at (kind_of G s.kind)) l)
    → w ≡ wanted_at G c s
wanted_leaf G c s k l w e f h = let g = shape_leaf G c s l l (e ∙ ap Leaf f) refl in rw g h

pub wanted_context : (G : Table) (c : Context) (s : Slot) (k : declared.Leaf) (x : Option ℕ) (w : Wanted)
    → form_at (kind_of G s.kind) ≡ Leaf k → k ≡ leaf.ContextNumber → x ≡ type_in c.operands
    → w ≡ wanted_number (is_float_type c.before x) (option_and_then (width_of c.before) x) → w ≡ wanted_at G c s
wanted_context G c s k x w e f g h =
    let h' : w ≡ wanted_number (is_float_type c.before (type_in c.operands)) (context_width c) = rw g at h in
    let i = float_context G c s (e ∙ ap Leaf f) in
    wanted_leaf G c s k leaf.ContextNumber w e f (rw i h')

pub wanted_switch : (G : Table) (c : Context) (s : Slot) (k : declared.Leaf) (opcode : ℕ) (x : Option ℕ) (w : Wanted)
    → form_at (kind_of G s.kind) ≡ Leaf k → k ≡ leaf.Integer → s.paired ≡ true → c.opcode ≡ opcode → opcode ≡ SWITCH
    → x ≡ option_and_then (type_of c.before) (first_id c.operands)
    → w ≡ wanted_number (is_float_type c.before x) (option_and_then (width_of c.before) x) → w ≡ wanted_at G c s
wanted_switch G c s k opcode x w e f p q o g h =
    let h' : w ≡ wanted_number (is_float_type c.before (option_and_then (type_of c.before) (first_id c.operands)))
    (switch_width c) = rw g at h in
    let i : is_float G c s ≡ is_float_type c.before (option_and_then (type_of c.before) (first_id c.operands)) = ap
    (is_float_type c.before) (type_by_switch c (kind_of G s.kind) (e ∙ ap Leaf f)) in
    let b = switch_at c s.paired opcode p q o in
    let h'' : w ≡ wanted_number (is_float G c s) (switch_width c) = rw i h' in
    wanted_leaf G c s k leaf.Integer w e f (rw b h'')

pub wanted_word : (G : Table) (c : Context) (s : Slot) (k : declared.Leaf) (opcode : ℕ) (w : Wanted)
    → form_at (kind_of G s.kind) ≡ Leaf k → k ≡ leaf.Integer → c.opcode ≡ opcode
    → (s.paired && nat_eq opcode SWITCH) ≡ false
    → w ≡ wanted.Number 1 false → w ≡ wanted_at G c s
wanted_word G c s k opcode w e f q b h =
    let b' : (s.paired && nat_eq c.opcode SWITCH) ≡ false = rw q b in
    wanted_leaf G c s k leaf.Integer w e f (rw b' h)

-- operands of a line that were read, or stop
pub outcome_of : (G : Table) (before : List PlainInst) (written : ℕ) (line words : List ℕ) (P : Parts) (opcode : ℕ)
    (entry : Entry) (r : Option ℕ) (o : Outcome) → parts_of line ≡ Some P → IsInstName G P.name opcode entry
    → IsResult P.result r × ((wrong : AsmCode)
    → ¬ (ResultFails G (start before opcode) (pattern_of entry) P.result wrong))
    → HaveOutcome G r before opcode (map due (pattern_of entry)) P.operands words o
    → HasOutcome G before written line words o
outcome_of G before written line words P opcode entry r (Read kept) e n f h =
    line_read G before line words P opcode entry r kept e n (result_text P.result r f.0) h
outcome_of G before written line words P opcode entry r (Stopped s) e n f h =
    line_operands_stop G before written line P opcode entry r s.code (plain_stop s) e n f h

-- the lines of a text that is read
pub read_text : (G : Table) (t : List ℕ) (h : Header) (rest : List (List ℕ)) (old new : List ℕ) → HeaderFits h
    → h.generator < 2 ^ 32 → lines_of t ≡ header_lines h ++ rest → old ≡ five_words h → HasLines G rest old new
    → (x : Header) × (is : List PlainInst) × (ws : List ℕ) × IsReadText G x is ws t
read_text G t h rest old new f g e o l =
    let k = text_read G t h rest old new new f g e o l refl in
    (k.0, k.1, Rattle.std.proofs.Common.drop 5 new, k.2)

pub line_taken : (G : Table) (before : List PlainInst) (line old new further : List ℕ) (kept : Line)
    → IsLine G before line further kept → new ≡ old ++ (first_word kept.opcode further ∷ further)
    → length further + 1 ≤ Rattle.spv_inst.specs.Limits.greatest_count
    → length old + (length further + 1) ≤ greatest_length → HasLine G before line old new kept
line_taken G before line old new further kept l e c s =
    record { further = further; line = l; words = e; count = c; short = s }

pub stays_stopped : (G : Table) (before : List PlainInst) (line words old new : List ℕ) (o : Outcome)
    (s : declared_stops.Stop) → o ≡ Stopped s → HasOutcome G before (length old) line words o
    → IsTakenOr G before line old new o
stays_stopped G before line words old new o s e h =
    let h' : LineStopsAt G before (length old) line s.code (plain_stop s) = rw e at h in rw e h'

-- what the lines behind those of the header tell of the whole text
pub told_in : (G : Table) (t : List ℕ) (h : Header) (rest : List (List ℕ)) (old new : List ℕ)
    (o : Answer (Option TextReason) AllocError) → HeaderFits h → h.generator < 2 ^ 32
    → lines_of t ≡ header_lines h ++ rest → old ≡ five_words h
    → IfOk o (λ a. MatchOption a (HasLines G rest old new) (λ r. StopIn G rest r))
    → IfOk o (λ a. MatchOption a ((x : Header) × (is : List PlainInst) × (ws : List ℕ) × IsReadText G x is ws t)
    (λ r. FailsFor G t r.code r.line (plain_reason r)))
told_in G t h rest old new (Err e) f g l w k = tt
told_in G t h rest old new (Ok None) f g l w k = read_text G t h rest old new f g l w k
told_in G t h rest old new (Ok (Some r)) f g l w k = text_fails_for G t h rest r.code r.line (plain_reason r) f g l k
