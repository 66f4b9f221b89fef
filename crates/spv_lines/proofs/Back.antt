-- What is shown of an operand and of an instruction is read as it.
use Rattle.std.proofs.Common.{◌≡◌, ◌≢◌, ◌++◌, ◌∙◌, ℕ, List, [], ◌∷◌, Option, Some, None, Bool, true, false, ◌&&◌}
use Rattle.std.proofs.Common.{nat_eq, map, option_map, option_and_then, refl, ap, arith, append_assoc}
use Rattle.std.specs.Prelude.{decimal, codes, unwrap_or}
use Rattle.std.specs.List.{AllByRecursion, list_all}
use Rattle.std.proofs.lemmas.Bool.Decides.{nat_tests}
use Rattle.spv_table.specs.declared.table.Enumerant.{Enumerant}
use Rattle.spv_table.specs.declared.table.Entry.{Entry}
use Rattle.spv_table.specs.Table.{Table, enumerant_of, kind_of}
use Rattle.spv_table.specs.Lookups.{opcode_named, value_named, is_number}
use Rattle.spv_module.specs.Operand.{Plain, OfType, Result, Id, Word, Number, Text, Value, Mask, Argument, Mention}
use Rattle.spv_module.specs.Operand.{Context, and_then, result_in}
use Rattle.spv_module.specs.Shape.{Slot, Shape, shape_of}
use Rattle.spv_module.specs.Spelling.{Takes}
use Rattle.spv_inst.specs.Reading.{enumerants_at}
use Rattle.spv_inst.specs.Flat.{Due, OneOf, ManyOf}
use Rattle.spv_inst.specs.inner.Flat.{Matches}
use Rattle.spv_lines.specs.Name.{is_plain, IsNameOf, AreNamesOf, Names, NamesMask, joined, by_number, mask_values}
use Rattle.spv_lines.specs.Name.{if_plain, first_name, first_names, shown_value, shown_mask}
use Rattle.spv_lines.specs.Operand.{Shown, IsRead, shown_operand, is_float, id_text, escaped, quoted, number_text}
use Rattle.spv_lines.specs.Written.{Piece, Written}
use Rattle.spv_lines.specs.Line.{shown_name, AreWords}
use Rattle.spv_lines.proofs.Tame.{Both, AreTame, decimal_tame}
use Rattle.spv_lines.proofs.Tokens.{Escape, escape_of}
use Rattle.spv_lines.proofs.Reading.{all_split}
use Rattle.spv_lines.proofs.Pieces.{id_tame, names_tame, masks_tame, narrow_tame, wide_tame}

eq_by : (a b : ℕ) → nat_eq a b ≡ true → a ≡ b
eq_by a b e = grind (arith, nat_tests)

both : (a b : Bool) → (a && b) ≡ true → Both (a ≡ true) (b ≡ true)
both true b h = record { first = refl; second = h }
both false b h = cc

number_is : (x : ℕ) (o : Option ℕ) → is_number x o ≡ true → o ≡ Some x
number_is x None h = cc
number_is x (Some y) h = ap Some (eq_by y x h)

-- a name that is shown is one that is read
pub name_of : (lookup : List ℕ → Option ℕ) (x : ℕ) (n t : List ℕ) → if_plain lookup x n ≡ Some t → IsNameOf lookup x t
name_of lookup x n t e = split (is_plain n && is_number x (lookup n)) refl e
  where
    split : (b : Bool) → (is_plain n && is_number x (lookup n)) ≡ b
        → Rattle.std.specs.Prelude.if◌then◌else◌ b (Some n) None ≡ Some t → IsNameOf lookup x t
    split true f e =
        let r = both (is_plain n) (is_number x (lookup n)) f in
        let m : n ≡ t = cc in
        let a : is_plain t ≡ true = rw m at r.first in
        let b : lookup t ≡ Some x = rw m at (number_is x (lookup n) r.second) in
        record { plain = a; found = b }
    split false f e = cc

first_name_of : (es : List Enumerant) (lookup : List ℕ → Option ℕ) (o : Option Enumerant) (x : ℕ) (t : List ℕ)
    → option_and_then (λ e. if_plain lookup x e.name) o ≡ Some t → IsNameOf lookup x t
first_name_of es lookup None x t e = cc
first_name_of es lookup (Some n) x t e = name_of lookup x n.name t e

pub value_back : (es : List Enumerant) (x : ℕ) → Names (value_named es) x (shown_value es x)
value_back es x = split (first_name es x) refl
  where
    split : (o : Option (List ℕ)) → first_name es x ≡ o → Names (value_named es) x (unwrap_or o (by_number x))
    split None f = Names.numbered
    split (Some t) f = Names.named t (first_name_of es (value_named es) (enumerant_of es x) x t f)

record OneMore (a : Option (List ℕ)) (r : Option (List (List ℕ))) (ts : List (List ℕ)) : Type 0 where
  pub first : List ℕ
  pub rest : List (List ℕ)
  pub first_is : a ≡ Some first
  pub rest_is : r ≡ Some rest
  pub all : first ∷ rest ≡ ts

one_more : (a : Option (List ℕ)) (r : Option (List (List ℕ))) (ts : List (List ℕ))
    → option_and_then (λ t. option_map (λ us. t ∷ us) r) a ≡ Some ts → OneMore a r ts
one_more None r ts e = cc
one_more (Some t) None ts e = cc
one_more (Some t) (Some us) ts e = record { first = t; rest = us; first_is = refl; rest_is = refl; all = cc }

more_names : (lookup : List ℕ → Option ℕ) (x : ℕ) (xs t : List ℕ) (us ts : List (List ℕ)) → IsNameOf lookup x t
    → AreNamesOf lookup xs us → t ∷ us ≡ ts → AreNamesOf lookup (x ∷ xs) ts
more_names lookup x xs t us [] n m e = cc
more_names lookup x xs t us (u ∷ ts) n m e =
    let f : t ≡ u = cc in
    let g : us ≡ ts = cc in
    let n' : IsNameOf lookup x u = rw f at n in
    let m' : AreNamesOf lookup xs ts = rw g at m in
    (n', m')

names_of : (es : List Enumerant) (xs : List ℕ) (ts : List (List ℕ)) → first_names es xs ≡ Some ts
    → AreNamesOf (value_named es) xs ts
names_of es [] ts e = let f : [] ≡ ts = cc in rw (← f) tt
names_of es (x ∷ xs) ts e =
    let r = one_more (first_name es x) (first_names es xs) ts e in
    let n : IsNameOf (value_named es) x r.first = first_name_of es (value_named es)
    (enumerant_of es x) x r.first r.first_is in
    let m : AreNamesOf (value_named es) xs r.rest = names_of es xs r.rest r.rest_is in
    more_names (value_named es) x xs r.first r.rest ts n m r.all

pub mask_back : (es : List Enumerant) (x : ℕ) → NamesMask (value_named es) x (shown_mask es x)
mask_back es x = split (first_names es (mask_values x)) refl
  where
    split : (o : Option (List (List ℕ))) → first_names es (mask_values x) ≡ o
        → NamesMask (value_named es) x (unwrap_or (option_map joined o) (by_number x))
    split None f = NamesMask.numbered
    split (Some ts) f = NamesMask.named ts (names_of es (mask_values x) ts f)

pub operand_back : (G : Table) (hex : Bool) (o : Plain) → IsRead G hex o (shown_operand G hex o)
operand_back G hex (OfType x) = refl
operand_back G hex (Result x) = refl
operand_back G hex (Id x) = refl
operand_back G hex (Word x) = refl
operand_back G hex (Argument x) = refl
operand_back G hex (Mention x) = refl
operand_back G hex (Number low high words) = refl
operand_back G hex (Text t) = refl
operand_back G hex (Value k x) = value_back (enumerants_at (kind_of G k)) x
operand_back G hex (Mask k x) = mask_back (enumerants_at (kind_of G k)) x

piece_back : (G : Table) (r : Option ℕ) (c : Context) (s : Slot) (o : Plain) (p : List ℕ) → Piece (Shown G) G r c s o p
    → Piece (IsRead G) G r c s o p
piece_back G r c s _ _ (Piece.result x n e) = Piece.result x n e
piece_back G r c s _ _ (Piece.other o t n e) = Piece.other o t n (rw e (operand_back G (is_float G c s) o))

pub written_back : (G : Table) (r : Option ℕ) (c : Context) (ds : List Due) (os : List Plain) (us t : List ℕ)
    → Written (Shown G) G r c ds os us t → Written (IsRead G) G r c ds os us t
written_back G r _ _ _ _ _ (Written.end c) = Written.end c
written_back G r _ _ _ _ _ (Written.take c s ds o ws ss p os us t h q m) =
    Written.take c s ds o ws ss p os us t h (piece_back G r c s o p q)
    (written_back G r (and_then c o) (map OneOf ss ++ ds) os us t m)
written_back G r _ _ _ _ _ (Written.parts c s ds ss os us t h m) =
    Written.parts c s ds ss os us t h (written_back G r c (map OneOf ss ++ ds) os us t m)
written_back G r _ _ _ _ _ (Written.no_maybe c s ds os t m) =
    Written.no_maybe c s ds os t (written_back G r c ds os [] t m)
written_back G r _ _ _ _ _ (Written.maybe c s ds os u us t m) =
    Written.maybe c s ds os u us t (written_back G r c (OneOf s ∷ ds) os (u ∷ us) t m)
written_back G r _ _ _ _ _ (Written.no_many c s ds os t m) =
    Written.no_many c s ds os t (written_back G r c ds os [] t m)
written_back G r _ _ _ _ _ (Written.many c s ds os u us t m) =
    Written.many c s ds os u us t (written_back G r c (OneOf s ∷ ManyOf s ∷ ds) os (u ∷ us) t m)

-- what words match has a shown text
pub record HasText (G : Table) (r : Option ℕ) (c : Context) (ds : List Due) (os : List Plain)
    (us : List ℕ) : Type 0 where
  pub text : List ℕ
  pub written : Written (Shown G) G r c ds os us text

record HasPiece (G : Table) (r : Option ℕ) (c : Context) (s : Slot) (o : Plain) : Type 0 where
  pub text : List ℕ
  pub piece : Piece (Shown G) G r c s o text

pub first_result : (xs : List Plain) (x : ℕ) (os : List Plain) → result_in xs ≡ None
    → result_in (xs ++ (Result x ∷ os)) ≡ Some x
first_result [] x os e = refl
first_result (OfType y ∷ xs) x os e = first_result xs x os e
first_result (Result y ∷ xs) x os e = cc
first_result (Id y ∷ xs) x os e = first_result xs x os e
first_result (Word y ∷ xs) x os e = first_result xs x os e
first_result (Argument y ∷ xs) x os e = first_result xs x os e
first_result (Mention y ∷ xs) x os e = first_result xs x os e
first_result (Number a b d ∷ xs) x os e = first_result xs x os e
first_result (Text t ∷ xs) x os e = first_result xs x os e
first_result (Value k y ∷ xs) x os e = first_result xs x os e
first_result (Mask k y ∷ xs) x os e = first_result xs x os e

piece_of : (G : Table) (r : Option ℕ) (c : Context) (s : Slot) (o : Plain) (os : List Plain)
    → r ≡ result_in (c.operands ++ (o ∷ os)) → HasPiece G r c s o
piece_of G r c s (OfType x) os e = record { text = _; piece = Piece.other (OfType x) _ refl refl }
piece_of G r c s (Id x) os e = record { text = _; piece = Piece.other (Id x) _ refl refl }
piece_of G r c s (Word x) os e = record { text = _; piece = Piece.other (Word x) _ refl refl }
piece_of G r c s (Argument x) os e = record { text = _; piece = Piece.other (Argument x) _ refl refl }
piece_of G r c s (Mention x) os e = record { text = _; piece = Piece.other (Mention x) _ refl refl }
piece_of G r c s (Number a b d) os e = record { text = _; piece = Piece.other (Number a b d) _ refl refl }
piece_of G r c s (Text t) os e = record { text = _; piece = Piece.other (Text t) _ refl refl }
piece_of G r c s (Value k x) os e = record { text = _; piece = Piece.other (Value k x) _ refl refl }
piece_of G r c s (Mask k x) os e = record { text = _; piece = Piece.other (Mask k x) _ refl refl }
piece_of G r c s (Result x) os e = split (result_in c.operands) refl
  where
    split : (p : Option ℕ) → result_in c.operands ≡ p → HasPiece G r c s (Result x)
    split None f = record { text = _; piece = Piece.result x f (e ∙ first_result c.operands x os f) }
    split (Some y) f = record { text = _; piece = Piece.other (Result x) _ (rw f refl) refl }

pub text_of : (G : Table) (r : Option ℕ) (c : Context) (ds : List Due) (os : List Plain) (us : List ℕ)
    → Matches G c ds os us → r ≡ result_in (c.operands ++ os) → HasText G r c ds os us
text_of G r _ _ _ _ (Matches.end c) e = record { text = []; written = Written.end c }
text_of G r _ _ _ _ (Matches.take c s ds o ws ss os us h m) e =
    let f : r ≡ result_in ((c.operands ++ (o ∷ [])) ++ os) = rw (append_assoc c.operands (o ∷ []) os) e in
    let x = text_of G r (and_then c o) (map OneOf ss ++ ds) os us m f in
    let p = piece_of G r c s o os e in
    record { text = p.text ++ x.text; written = Written.take c s ds o ws ss p.text os us x.text h p.piece x.written }
text_of G r _ _ _ _ (Matches.parts c s ds ss os us h m) e = let x = text_of G r c (map OneOf ss ++ ds) os us m e in
    record { text = x.text; written = Written.parts c s ds ss os us x.text h x.written }
text_of G r _ _ _ _ (Matches.no_maybe c s ds os m) e = let x = text_of G r c ds os [] m e in
    record { text = x.text; written = Written.no_maybe c s ds os x.text x.written }
text_of G r _ _ _ _ (Matches.maybe c s ds os u us m) e = let x = text_of G r c (OneOf s ∷ ds) os (u ∷ us) m e in
    record { text = x.text; written = Written.maybe c s ds os u us x.text x.written }
text_of G r _ _ _ _ (Matches.no_many c s ds os m) e = let x = text_of G r c ds os [] m e in
    record { text = x.text; written = Written.no_many c s ds os x.text x.written }
text_of G r _ _ _ _ (Matches.many c s ds os u us m) e =
    let x = text_of G r c (OneOf s ∷ ManyOf s ∷ ds) os (u ∷ us) m e in
    record { text = x.text; written = Written.many c s ds os u us x.text x.written }

pub inst_name_back : (G : Table) (opcode : ℕ) (e : Entry)
    → Names (opcode_named G.entries) opcode (shown_name G opcode e)
inst_name_back G opcode e = split (if_plain (opcode_named G.entries) opcode e.name) refl
  where
    split : (o : Option (List ℕ)) → if_plain (opcode_named G.entries) opcode e.name ≡ o
        → Names (opcode_named G.entries) opcode (unwrap_or o (by_number opcode))
    split None f = Names.numbered
    split (Some t) f = Names.named t (name_of (opcode_named G.entries) opcode e.name t f)

-- no line feed
abbrev pub NoFeed : List ℕ → Type 0
NoFeed t = AllByRecursion (λ b. b ≢ 10) t

pub feedless-append : (a b : List ℕ) → NoFeed a → NoFeed b → NoFeed (a ++ b)
feedless-append [] b h g = g
feedless-append (x ∷ a) b h g = (h.0, feedless-append a b h.1 g)

pub tame_feedless : (t : List ℕ) → AreTame t → NoFeed t
tame_feedless [] h = tt
tame_feedless (b ∷ t) h = let l = h.0 in ((λ e. omega arith), tame_feedless t h.1)

escape_feedless : (b : ℕ) (t out : List ℕ) → Escape b t out → NoFeed (escaped t) → NoFeed out
escape_feedless b t out (Escape.quote e f) h = rw f ((λ z. omega arith), ((λ z. omega arith), h))
escape_feedless b t out (Escape.slash e f) h = rw f ((λ z. omega arith), ((λ z. omega arith), h))
escape_feedless b t out (Escape.feed e f) h = rw f ((λ z. omega arith), ((λ z. omega arith), h))
escape_feedless b t out (Escape.plain n m k f) h = rw f (k, h)

pub escaped_feedless : (t : List ℕ) → NoFeed (escaped t)
escaped_feedless [] = tt
escaped_feedless (b ∷ t) = escape_feedless b t (escaped (b ∷ t)) (escape_of b t) (escaped_feedless t)

quoted_feedless : (t : List ℕ) → NoFeed (quoted t)
quoted_feedless t = (
  (λ z. omega arith),
  feedless-append (escaped t) (34 ∷ []) (escaped_feedless t)
      ((λ z. omega arith), tt),
)

token_feedless : (G : Table) (hex : Bool) (k : ℕ) (sh : Shape) (o : Plain) (ws : List ℕ) (ss : List Slot) (a : List ℕ)
    → Takes k sh o ws ss → AreWords ws → IsRead G hex o a → NoFeed a
token_feedless G hex k _ _ _ _ a (Takes.result_type x) h e = rw e (tame_feedless (id_text x) (id_tame x h.0))
token_feedless G hex k _ _ _ _ a (Takes.result x) h e = rw e (tame_feedless (id_text x) (id_tame x h.0))
token_feedless G hex k _ _ _ _ a (Takes.id x) h e = rw e (tame_feedless (id_text x) (id_tame x h.0))
token_feedless G hex k _ _ _ _ a (Takes.word x) h e = let l = h.0 in
    rw e (tame_feedless (decimal x) (decimal_tame x (omega arith)))
token_feedless G hex k _ _ _ _ a (Takes.narrow w x n) h e =
    rw e (tame_feedless (number_text hex x 0 1) (narrow_tame hex x h.0))
token_feedless G hex k _ _ _ _ a (Takes.wide w x y n) h e =
    rw e (tame_feedless (number_text hex x y 2) (wide_tame hex x y h.0 h.1.0))
token_feedless G hex k _ _ _ _ a (Takes.text s ws p n z v) h e = rw e (quoted_feedless s)
token_feedless G hex k _ _ _ _ a (Takes.value es x ks n) h e =
    tame_feedless a (names_tame (value_named (enumerants_at (kind_of G k))) x a h.0 e)
token_feedless G hex k _ _ _ _ a (Takes.mask es x ks n) h e =
    tame_feedless a (masks_tame (value_named (enumerants_at (kind_of G k))) x a h.0 e)

pub written_feedless : (G : Table) (r : Option ℕ) (c : Context) (ds : List Due) (os : List Plain) (us t : List ℕ)
    → Written (IsRead G) G r c ds os us t → AreWords us → NoFeed t
written_feedless G r _ _ _ _ _ (Written.end c) h = tt
written_feedless G r _ _ _ _ _ (Written.take c s ds _ ws ss _ os us t k (Piece.result x n e) m) h =
    written_feedless G r (and_then c (Result x)) (map OneOf ss ++ ds) os us t m (all_split ws us h).second
written_feedless G r _ _ _ _ _ (Written.take c s ds _ ws ss _ os us t k (Piece.other o a n e) m) h =
    let g = all_split ws us h in (
      (λ z. omega arith),
      feedless-append a t
          (token_feedless G (is_float G c s) s.kind (shape_of G c s) o ws ss a k g.first e)
          (written_feedless G r (and_then c o) (map OneOf ss ++ ds) os us t m g.second),
    )
written_feedless G r _ _ _ _ _ (Written.parts c s ds ss os us t k m) h =
    written_feedless G r c (map OneOf ss ++ ds) os us t m h
written_feedless G r _ _ _ _ _ (Written.no_maybe c s ds os t m) h = written_feedless G r c ds os [] t m h
written_feedless G r _ _ _ _ _ (Written.maybe c s ds os u us t m) h =
    written_feedless G r c (OneOf s ∷ ds) os (u ∷ us) t m h
written_feedless G r _ _ _ _ _ (Written.no_many c s ds os t m) h = written_feedless G r c ds os [] t m h
written_feedless G r _ _ _ _ _ (Written.many c s ds os u us t m) h =
    written_feedless G r c (OneOf s ∷ ManyOf s ∷ ds) os (u ∷ us) t m h
