-- How far a run on several files is.
use Rattle.std.proofs.Common.{◌≡◌, ◌≢◌, ◌≤◌, ◌<◌, ◌⊎◌, inl, inr, ◌+◌, ◌∙◌, ◌++◌, ◌∷◌, [], ℕ, List, Bool, true}
use Rattle.std.proofs.Common.{false, Option, Some, None, IfSome, length, max, take, map, ap, sym}
use Rattle.std.proofs.Common.{refl, subst, arith, length-append, get_or}
use Rattle.std.proofs.lemmas.List.{length-map, length-take-le, map_more}
use Rattle.std.proofs.lemmas.List.{take-map, take_all}
use Rattle.std.specs.Borrow.{Bor}
use Rattle.spv_table.specs.Table.{Table}
use Rattle.std.specs.Prelude.{Result, Ok, Err, IfErr, IfOk, IsErrOf, Vec}
use Rattle.std.specs.Global.{Global}
use Rattle.spv_builtin.specs.Source.{IsTableOf, breaks}
use Rattle.spv_grammar.specs.declared.error.GrammarError.{GrammarError}
use Rattle.spv_grammar.specs.declared.error.GrammarError.TheVariants.{J1, J2, J3, J4, J5, J6, J7, J8}
use Rattle.spv_commands.specs.Trouble.{Writes, file_line, grammar_text, trouble_text}
use Rattle.spv_commands.specs.declared.judging.Judging.{Judging}
use Rattle.spv_commands.specs.Part.{IsPart, IsUnread, Known, told_line, unread_text}
use Rattle.spv_commands.specs.Name.{label}
use Rattle.spv_commands.specs.inner.Progress.{HasGot, WritesOn}
use Rattle.spv_commands.specs.declared.judging.Part.{Part}
use Rattle.spv_commands.specs.declared.trouble.Trouble.{Trouble}
use Rattle.spv_commands.specs.declared.trouble.Trouble.TheVariants.{File, Memory}
use Rattle.spv_commands.proofs.Parts.{got_nothing, never}
use Rattle.spv_streams.specs.Each.{AreParts, Ends}
use Rattle.spv_streams.specs.Each.{more, none}

-- What was written of the first files, whether all writes to the standard error have succeeded, and the status so far.
pub record Going (G : Table) (how : Judging) (known : ℕ → Known) (names : List (List ℕ)) (status : ℕ) (told : Bool)
    (old_out out : Option (List ℕ)) (before_out after_out : ℕ) (old_err err : Option (List ℕ))
    (before_err after_err : ℕ) : Type 0 where
  pub text : List ℕ
  pub lines : List ℕ
  pub parts : AreParts G how known names text lines status
  pub out_got : HasGot true text old_out out before_out after_out
  pub err_got : HasGot told lines old_err err before_err after_err
  pub small : status ≤ 2

pub begins : (G : Table) (how : Judging) (known : ℕ → Known) (out err : Option (List ℕ)) (before_out before_err : ℕ)
    → Going G how known [] 0 true out out before_out before_out err err before_err before_err
begins G how known out err before_out before_err = record {
  text = [];
  lines = [];
  parts = none;
  out_got = got_nothing out before_out;
  err_got = got_nothing err before_err;
  small = omega arith;
}

-- the number of a file is how many stand before it
pub number_is : (names : List (Bor (List ℕ))) (at : ℕ) → at ≤ length names
    → length (map (λ n. n.now) (take at names)) ≡ at
number_is names at h = length-map (take at names) (λ (n : Bor (List ℕ)). n.now) ∙ length-take-le at names h

-- a file had its turn, and what is written of it was
pub part_on : (G : Table) (how : Judging) (known : ℕ → Known) (all : List (Bor (List ℕ))) (at : ℕ) (word : List ℕ)
    (any : Bor (List ℕ)) (status own next : ℕ) (told heard : Bool) (part line : List ℕ)
    (old_out out new_out : Option (List ℕ)) (before_out between_out after_out : ℕ)
    (old_err err new_err : Option (List ℕ)) (before_err between_err after_err : ℕ)
    → at < length all → word ≡ (get_or all at any).now
    → Going G how known (map (λ n. n.now) (take at all)) status told old_out out before_out between_out old_err err
    before_err between_err
    → IsPart G how word (known at) part line own → own ≤ 2 → next ≡ max status own
    → WritesOn told line heard err new_err between_err after_err
    → WritesOn true part true out new_out between_out after_out
    → Going G how known (map (λ n. n.now) (take (at + 1) all)) next heard old_out new_out before_out after_out old_err
    new_err before_err after_err
part_on G how known all at word any status own next told heard part line old_out out new_out before_out between_out
    after_out old_err err new_err before_err between_err after_err h n g p small e v w =
    let first = map (λ (m : Bor (List ℕ)). m.now) (take at all) in
    let grown : map (λ (m : Bor (List ℕ)). m.now) (take (at + 1) all) ≡ first ++ word ∷ [] =
    map_more (λ (m : Bor (List ℕ)). m.now) all at any h ∙ ap (λ (m : List ℕ). first ++ m ∷ []) (sym n) in
    let own_part : IsPart G how word (known (length first)) part line own =
    subst (λ (k : ℕ). IsPart G how word (known k) part line own) (sym (number_is all at (omega (arith, h)))) p in
    let bound = g.small in
    record {
      text = g.text ++ part;
      lines = g.lines ++ line;
      parts = subst (λ (ls : List (List ℕ)). AreParts G how known ls (g.text ++ part) (g.lines ++ line) next)
          (sym grown)
          (rw e (more word part line own g.parts own_part));
      out_got = w g.text old_out before_out g.out_got;
      err_got = v g.lines old_err before_err g.err_got;
      small = rw e (omega arith);
    }

-- a file had its turn, and a write of what is written of it failed
pub cut_on : (text : Option (List ℕ)) (G : Table) (how : Judging) (known : ℕ → Known) (all : List (Bor (List ℕ)))
    (at : ℕ) (word : List ℕ) (any : Bor (List ℕ)) (status own : ℕ) (told heard last : Bool) (part line : List ℕ)
    (old_out out new_out : Option (List ℕ)) (before_out between_out after_out : ℕ)
    (old_err err middle_err new_err : Option (List ℕ)) (before_err between_err told_err after_err : ℕ)
    → IsTableOf text G → at < length all → word ≡ (get_or all at any).now
    → Going G how known (map (λ n. n.now) (take at all)) status told old_out out before_out between_out old_err err
    before_err between_err
    → IsPart G how word (known at) part line own
    → WritesOn told line heard err middle_err between_err told_err
    → WritesOn true part false out new_out between_out after_out
    → WritesOn heard file_line last middle_err new_err told_err after_err
    → Ends text how known (map (λ n. n.now) all) (λ o. Writes o old_out new_out before_out after_out)
    (λ e. Writes e old_err new_err before_err after_err)
    (after_out ≡ before_out) 2
cut_on text G how known all at word any status own told heard last part line old_out out new_out before_out between_out
    after_out old_err err middle_err new_err before_err between_err told_err after_err given h n g p u w v =
    let first = map (λ (m : Bor (List ℕ)). m.now) (take at all) in
    let grown : map (λ (m : Bor (List ℕ)). m.now) (take (at + 1) all) ≡ first ++ word ∷ [] =
    map_more (λ (m : Bor (List ℕ)). m.now) all at any h ∙ ap (λ (m : List ℕ). first ++ m ∷ []) (sym n) in
    let own_part : IsPart G how word (known (length first)) part line own =
    subst (λ (k : ℕ). IsPart G how word (known k) part line own) (sym (number_is all at (omega (arith, h)))) p in
    let got = w g.text old_out before_out g.out_got in
    Ends.cut G (at + 1) (g.text ++ part) (g.lines ++ line) (max status own) given
    (subst (λ (ls : List (List ℕ)). AreParts G how known ls (g.text ++ part) (g.lines ++ line) (max status own))
    (sym (take-map (λ (m : Bor (List ℕ)). m.now) (at + 1) all ∙ grown))
    (more word part line own g.parts own_part))
    got.writes (λ q. never (got.steady.1 q))
    (v (g.lines ++ line) old_err before_err (u g.lines old_err before_err g.err_got)).writes refl

-- what is written of a file that was not judged is its part
unread_by : (G : Table) (how : Judging) (name : List ℕ) (known : Known) (t : Trouble) (out : List ℕ)
    → (t ≡ File → IfSome known (λ file. file ≡ None)) → (t ≡ File) ⊎ (t ≡ Memory)
    → out ≡ unread_text how.telling name t → IsPart G how name known out (label name ++ trouble_text t) 2
unread_by G how name known t out h (inl e) o =
    rw e (IsPart.unread (h e) (rw e at o) refl refl)
unread_by G how name known t out h (inr e) o =
    rw e (IsPart.starved (inl (rw e at o)) refl refl)

pub part_unread : (G : Table) (how : Judging) (name : List ℕ) (known : Known) (t : Trouble) (part : Part)
    → (t ≡ File → IfSome known (λ file. file ≡ None)) → (t ≡ File) ⊎ (t ≡ Memory) → part.status ≡ 2
    → (((part.trouble ≡ Some t) × (part.text.items ≡ unread_text how.telling name t))
    ⊎ ((part.trouble ≡ Some Memory) × (part.text.items ≡ [])))
    → IsPart G how name known part.text.items (told_line name part.trouble) part.status
part_unread G how name known t part h o s (inl w) =
    rw (w.0, s) (unread_by G how name known t part.text.items h o w.1)
part_unread G how name known t part h o s (inr w) =
    rw (w.0, s) (IsPart.starved (inr w.1) refl refl)

-- what is written of a file that is known to have the bytes that were read
of_bytes : (G : Table) (how : Judging) (name bytes : List ℕ) (known : Known) (out err : List ℕ) (status : ℕ)
    → IfSome known (λ file. file ≡ Some bytes)
    → IsPart G how name (Some (Some bytes)) out err status → IsPart G how name known out err status
of_bytes G how name bytes known out err status h (IsPart.judged own valid k d e s) =
    IsPart.judged own valid (rw (sym k) h) d e s
of_bytes G how name bytes known out err status h (IsPart.unread k o e s) = cc
of_bytes G how name bytes known out err status h (IsPart.starved o e s) = IsPart.starved o e s

-- or of what its reading gave
pub known_part : (G : Table) (how : Judging) (name : List ℕ) (known : Known) (file : Result (Vec ℕ Global) Trouble)
    (part : Part)
    → IfOk file (λ v. IfSome known (λ file. file ≡ Some v.items))
    → (IsErrOf file File → IfSome known (λ file. file ≡ None)) → IfErr file (λ t. (t ≡ File) ⊎ (t ≡ Memory))
    → IfOk file (λ v. IsPart G how name (Some (Some v.items)) part.text.items (told_line name part.trouble) part.status)
    → IfErr file (λ t. IsUnread how name t part)
    → IsPart G how name known part.text.items (told_line name part.trouble) part.status
known_part G how name known (Ok v) part given unread only judged refused =
    of_bytes G how name v.items known part.text.items (told_line name part.trouble) part.status given judged
known_part G how name known (Err t) part given unread only judged refused =
    part_unread G how name known t part (λ q. unread (ap Err q)) only refused.0 refused.1

-- all files had their turn
pub ends_on : (text : Option (List ℕ)) (G : Table) (how : Judging) (known : ℕ → Known) (all : List (Bor (List ℕ)))
    (at : ℕ) (status : ℕ) (told : Bool)
    (old_out out : Option (List ℕ)) (before_out after_out : ℕ) (old_err err : Option (List ℕ))
    (before_err after_err : ℕ)
    → IsTableOf text G → length all ≤ at
    → Going G how known (map (λ n. n.now) (take at all)) status told old_out out before_out after_out old_err err
    before_err after_err
    → Ends text how known (map (λ n. n.now) all) (λ o. Writes o old_out out before_out after_out)
    (λ e. Writes e old_err err before_err after_err)
    (after_out ≡ before_out) status
ends_on text G how known all at status told old_out out before_out after_out old_err err before_err after_err given h
    g =
    Ends.done G g.text g.lines given
    (subst (λ (ls : List (Bor (List ℕ))). AreParts G how known (map (λ n. n.now) ls) g.text g.lines status)
    (take_all at all h) g.parts)
    g.out_got.writes (g.out_got.steady.0 refl) g.err_got.writes

-- a refused grammar file, or want of memory for it
pub refused_on : (text : Option (List ℕ)) (how : Judging) (known : ℕ → Known) (names : List (List ℕ))
    (Out Told : List ℕ → Type 0) (whole : Type 0) (e : GrammarError)
    → (e ≢ J8 → breaks text e) → Out [] → whole → Told (grammar_text e) → Ends text how known names Out Told whole 2
refused_on text how known names Out Told whole J8 h o w x = Ends.starved o w x refl
refused_on text how known names Out Told whole J1 h o w x = Ends.refused J1 (h (λ q. cc)) o w x refl
refused_on text how known names Out Told whole J2 h o w x = Ends.refused J2 (h (λ q. cc)) o w x refl
refused_on text how known names Out Told whole J3 h o w x = Ends.refused J3 (h (λ q. cc)) o w x refl
refused_on text how known names Out Told whole J4 h o w x = Ends.refused J4 (h (λ q. cc)) o w x refl
refused_on text how known names Out Told whole J5 h o w x = Ends.refused J5 (h (λ q. cc)) o w x refl
refused_on text how known names Out Told whole J6 h o w x = Ends.refused J6 (h (λ q. cc)) o w x refl
refused_on text how known names Out Told whole J7 h o w x = Ends.refused J7 (h (λ q. cc)) o w x refl

-- ---- the worked examples

pub no_files : (G : Table) (how : Judging) (known : ℕ → Known) (names : List (List ℕ)) (out err : List ℕ) (status : ℕ)
    → names ≡ [] → status ≡ 2
    → ¬ (AreParts G how known names out err status)
no_files G how known _ _ _ _ n s none = let q : 0 ≡ 2 = s in cc
no_files G how known _ _ _ _ n s (more {names} name part line own parts own_part) =
    let long : length names + 1 ≡ 0 = sym (length-append names (name ∷ [])) ∙ ap length n in
    omega (arith, long)

pub never_told : (text : Option (List ℕ)) (how : Judging) (known : ℕ → Known) (names : List (List ℕ)) (status : ℕ)
    → ¬ (Ends text how known names (λ o. ⊥) (λ e. ⊥) (Unit {0}) status)
never_told text how known names status (Ends.refused e b o w x s) = o
never_told text how known names status (Ends.starved o w x s) = o
never_told text how known names status (Ends.done G out err given parts o w x) = o
never_told text how known names status (Ends.cut G count out err so_far given parts o w x s) = o
