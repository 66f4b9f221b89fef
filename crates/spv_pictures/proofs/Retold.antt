-- The frame of a picture of calls is that of a module with other texts.
use Rattle.std.proofs.Common.{◌≡◌, ◌++◌, ◌∙◌, ℕ, Bool, true, false, List, [], ◌∷◌, Option, Some, None, flat_map, map}
use Rattle.std.proofs.Common.{nat_eq, option_and_then, refl, ap, sym}
use Rattle.std.proofs.lemmas.List.{map-append}
use Rattle.std.specs.Prelude.{◌||◌, codes, decimal, if◌then◌else◌, option_map}
use Rattle.spv_module.specs.Operand.{Plain, OfType, Result, Id, Word, Number, Text, Value, Mask, Argument, Mention}
use Rattle.spv_module.specs.Operand.{PlainInst, result_in}
use Rattle.spv_module.specs.declared.opcode.TheConstants.{ENTRY_POINT, FUNCTION_CALL, LABEL, NAME}
use Rattle.spv_pictures.specs.Calls.{call_edge, call_graph_text, callee_in, callee_of, declaration_mark, entries_of}
use Rattle.spv_pictures.specs.Calls.{entry_line, entry_lines, entry_mark, entry_names, given_to, function_label}
use Rattle.spv_pictures.specs.Calls.{function_node, function_text, functions, has_label, name_line}
use Rattle.spv_names.specs.Names.{entry_in, name_in, name_of, named_by, or_later}
use Rattle.spv_pictures.specs.Function.{begins_function, ends_function}
use Rattle.spv_pictures.specs.Label.{label_text, node_name, shown_id}
use Rattle.spv_pictures.specs.Reading.{frame_of, retold, retold_operand}
use Rattle.spv_names.specs.declared.naming.Naming.{Naming}
use Rattle.spv_names.specs.declared.naming.Naming.TheVariants.{Name, EntryPoint}
use Rattle.spv_pictures.proofs.Framed.{framed, groups-map}
use Rattle.spv_pictures.proofs.Frames.{IsLevel, Same, decimal_unmarked, level-append, name_level, same-append}
use Rattle.spv_pictures.proofs.Frames.{same_itself, same_level, same_nil, same_texts}
use Rattle.spv_pictures.proofs.Labels.{HasNoMark, label_unmarked, unmarked-append}

module _ (f : List ℕ → List ℕ) where
  result_kept : (os : List Plain) → result_in (map (retold_operand f) os) ≡ result_in os
  result_kept [] = refl
  result_kept (OfType x ∷ os) = result_kept os
  result_kept (Result x ∷ os) = refl
  result_kept (Id x ∷ os) = result_kept os
  result_kept (Word x ∷ os) = result_kept os
  result_kept (Argument x ∷ os) = result_kept os
  result_kept (Mention x ∷ os) = result_kept os
  result_kept (Number low high words ∷ os) = result_kept os
  result_kept (Text t ∷ os) = result_kept os
  result_kept (Value k x ∷ os) = result_kept os
  result_kept (Mask k x ∷ os) = result_kept os

  abbrev told : Option (ℕ × List ℕ) → Option (ℕ × List ℕ)
  told o = option_map (λ (p : ℕ × List ℕ). (p.0, f p.1)) o

  second_name : (x : ℕ) (os : List Plain) → name_in (Id x ∷ map (retold_operand f) os) ≡ told (name_in (Id x ∷ os))
  second_name x [] = refl
  second_name x (OfType y ∷ os) = refl
  second_name x (Result y ∷ os) = refl
  second_name x (Id y ∷ os) = refl
  second_name x (Word y ∷ os) = refl
  second_name x (Argument y ∷ os) = refl
  second_name x (Mention y ∷ os) = refl
  second_name x (Number low high words ∷ os) = refl
  second_name x (Text t ∷ os) = refl
  second_name x (Value k y ∷ os) = refl
  second_name x (Mask k y ∷ os) = refl

  name_kept : (os : List Plain) → name_in (map (retold_operand f) os) ≡ told (name_in os)
  name_kept [] = refl
  name_kept (OfType x ∷ os) = refl
  name_kept (Result x ∷ os) = refl
  name_kept (Id x ∷ os) = second_name x os
  name_kept (Word x ∷ os) = refl
  name_kept (Argument x ∷ os) = refl
  name_kept (Mention x ∷ os) = refl
  name_kept (Number low high words ∷ os) = refl
  name_kept (Text t ∷ os) = refl
  name_kept (Value k x ∷ os) = refl
  name_kept (Mask k x ∷ os) = refl

  third_entry : (k v x : ℕ) (os : List Plain)
      → entry_in (Value k v ∷ Id x ∷ map (retold_operand f) os) ≡ told (entry_in (Value k v ∷ Id x ∷ os))
  third_entry k v x [] = refl
  third_entry k v x (OfType y ∷ os) = refl
  third_entry k v x (Result y ∷ os) = refl
  third_entry k v x (Id y ∷ os) = refl
  third_entry k v x (Word y ∷ os) = refl
  third_entry k v x (Argument y ∷ os) = refl
  third_entry k v x (Mention y ∷ os) = refl
  third_entry k v x (Number low high words ∷ os) = refl
  third_entry k v x (Text t ∷ os) = refl
  third_entry k v x (Value j y ∷ os) = refl
  third_entry k v x (Mask j y ∷ os) = refl

  second_entry : (k v : ℕ) (os : List Plain)
      → entry_in (Value k v ∷ map (retold_operand f) os) ≡ told (entry_in (Value k v ∷ os))
  second_entry k v [] = refl
  second_entry k v (OfType y ∷ os) = refl
  second_entry k v (Result y ∷ os) = refl
  second_entry k v (Id y ∷ os) = third_entry k v y os
  second_entry k v (Word y ∷ os) = refl
  second_entry k v (Argument y ∷ os) = refl
  second_entry k v (Mention y ∷ os) = refl
  second_entry k v (Number low high words ∷ os) = refl
  second_entry k v (Text t ∷ os) = refl
  second_entry k v (Value j y ∷ os) = refl
  second_entry k v (Mask j y ∷ os) = refl

  entry_kept : (os : List Plain) → entry_in (map (retold_operand f) os) ≡ told (entry_in os)
  entry_kept [] = refl
  entry_kept (OfType x ∷ os) = refl
  entry_kept (Result x ∷ os) = refl
  entry_kept (Id x ∷ os) = refl
  entry_kept (Word x ∷ os) = refl
  entry_kept (Argument x ∷ os) = refl
  entry_kept (Mention x ∷ os) = refl
  entry_kept (Number low high words ∷ os) = refl
  entry_kept (Text t ∷ os) = refl
  entry_kept (Value k x ∷ os) = second_entry k x os
  entry_kept (Mask k x ∷ os) = refl

  named_kept : (naming : Naming) (i : PlainInst) → named_by naming (retold f i) ≡ told (named_by naming i)
  named_kept Name i = by (nat_eq i.opcode NAME) (name_kept i.operands)
    where
      by : (b : Bool) → name_in (map (retold_operand f) i.operands) ≡ told (name_in i.operands)
          → (if b then name_in (map (retold_operand f) i.operands) else None) ≡ told
          (if b then name_in i.operands else None)
      by true e = e
      by false e = refl
  named_kept EntryPoint i = by (nat_eq i.opcode ENTRY_POINT) (entry_kept i.operands)
    where
      by : (b : Bool) → entry_in (map (retold_operand f) i.operands) ≡ told (entry_in i.operands)
          → (if b then entry_in (map (retold_operand f) i.operands) else None) ≡ told
          (if b then entry_in i.operands else None)
      by true e = e
      by false e = refl

  later_kept : (x : ℕ) (o : Option (ℕ × List ℕ)) (later : Option (List ℕ))
      → or_later x (told o) (option_map f later) ≡ option_map f (or_later x o later)
  later_kept x None later = refl
  later_kept x (Some p) later = by (nat_eq p.0 x)
    where
      by : (b : Bool) → (if b then Some (f p.1) else option_map f later) ≡ option_map f (if b then Some p.1 else later)
      by true = refl
      by false = refl

  name_of_kept : (naming : Naming) (is : List PlainInst) (x : ℕ)
      → name_of naming (map (retold f) is) x ≡ option_map f (name_of naming is x)
  name_of_kept naming [] x = refl
  name_of_kept naming (i ∷ is) x =
      ap (λ o. or_later x o (name_of naming (map (retold f) is) x)) (named_kept naming i)
      ∙ (ap (or_later x (told (named_by naming i))) (name_of_kept naming is x)
      ∙ later_kept x (named_by naming i) (name_of naming is x))

  name_at_kept : (naming : Naming) (is : List PlainInst) (o : Option ℕ)
      → option_and_then (name_of naming (map (retold f) is)) o ≡ option_map f (option_and_then (name_of naming is) o)
  name_at_kept naming is None = refl
  name_at_kept naming is (Some x) = name_of_kept naming is x

  third_callee : (t r : ℕ) (os : List Plain)
      → callee_in (OfType t ∷ Result r ∷ map (retold_operand f) os) ≡ callee_in (OfType t ∷ Result r ∷ os)
  third_callee t r [] = refl
  third_callee t r (OfType y ∷ os) = refl
  third_callee t r (Result y ∷ os) = refl
  third_callee t r (Id y ∷ os) = refl
  third_callee t r (Word y ∷ os) = refl
  third_callee t r (Argument y ∷ os) = refl
  third_callee t r (Mention y ∷ os) = refl
  third_callee t r (Number low high words ∷ os) = refl
  third_callee t r (Text s ∷ os) = refl
  third_callee t r (Value j y ∷ os) = refl
  third_callee t r (Mask j y ∷ os) = refl

  second_callee : (t : ℕ) (os : List Plain)
      → callee_in (OfType t ∷ map (retold_operand f) os) ≡ callee_in (OfType t ∷ os)
  second_callee t [] = refl
  second_callee t (OfType y ∷ os) = refl
  second_callee t (Result y ∷ os) = third_callee t y os
  second_callee t (Id y ∷ os) = refl
  second_callee t (Word y ∷ os) = refl
  second_callee t (Argument y ∷ os) = refl
  second_callee t (Mention y ∷ os) = refl
  second_callee t (Number low high words ∷ os) = refl
  second_callee t (Text s ∷ os) = refl
  second_callee t (Value j y ∷ os) = refl
  second_callee t (Mask j y ∷ os) = refl

  callee_in_kept : (os : List Plain) → callee_in (map (retold_operand f) os) ≡ callee_in os
  callee_in_kept [] = refl
  callee_in_kept (OfType x ∷ os) = second_callee x os
  callee_in_kept (Result x ∷ os) = refl
  callee_in_kept (Id x ∷ os) = refl
  callee_in_kept (Word x ∷ os) = refl
  callee_in_kept (Argument x ∷ os) = refl
  callee_in_kept (Mention x ∷ os) = refl
  callee_in_kept (Number low high words ∷ os) = refl
  callee_in_kept (Text t ∷ os) = refl
  callee_in_kept (Value k x ∷ os) = refl
  callee_in_kept (Mask k x ∷ os) = refl

  callee_kept : (i : PlainInst) → callee_of (retold f i) ≡ callee_of i
  callee_kept i = ap (λ o. if nat_eq i.opcode FUNCTION_CALL then o else None) (callee_in_kept i.operands)

  calls_kept : (from : Option ℕ) (body : List PlainInst)
      → flat_map (λ (j : PlainInst). call_edge from (callee_of j)) (map (retold f) body) ≡ flat_map
      (λ (j : PlainInst). call_edge from (callee_of j)) body
  calls_kept from [] = refl
  calls_kept from (i ∷ body) =
      ap (λ o. call_edge from o ++ flat_map (λ (j : PlainInst). call_edge from (callee_of j)) (map (retold f) body))
      (callee_kept i) ∙ ap (λ t. call_edge from (callee_of i) ++ t) (calls_kept from body)

  label_kept : (body : List PlainInst) → has_label (map (retold f) body) ≡ has_label body
  label_kept [] = refl
  label_kept (i ∷ body) = ap (λ b. nat_eq i.opcode LABEL || b) (label_kept body)

  label_same : (t : List ℕ) → Same 1 1 (label_text t) (label_text (f t))
  label_same t = same_texts (label_text t) (label_text (f t)) (label_unmarked t) (label_unmarked (f t))

  name_line_same : (o : Option (List ℕ)) → Same 1 1 (name_line o) (name_line (option_map f o))
  name_line_same None = same_nil 1
  name_line_same (Some t) =
      same-append 1 1 1 (codes "<BR/>") (codes "<BR/>") (label_text t) (label_text (f t))
      (same_itself 1 (codes "<BR/>")) (label_same t)

  given_kept : (x : ℕ) (o : Option (ℕ × List ℕ)) → given_to x (told o) ≡ map f (given_to x o)
  given_kept x None = refl
  given_kept x (Some p) = by (nat_eq p.0 x)
    where
      by : (b : Bool) → (if b then f p.1 ∷ [] else []) ≡ map f (if b then p.1 ∷ [] else [])
      by true = refl
      by false = refl

  entry_names_kept : (is : List PlainInst) (x : ℕ) → entry_names (map (retold f) is) x ≡ map f (entry_names is x)
  entry_names_kept [] x = refl
  entry_names_kept (i ∷ is) x =
      let g = λ (o : Option (ℕ × List ℕ)). given_to x o in
      let later = entry_names (map (retold f) is) x in
      ap (λ o. g o ++ later) (named_kept EntryPoint i) ∙ (ap (λ z. z ++ later) (given_kept x (named_by EntryPoint i))
      ∙ (ap (λ z. map f (g (named_by EntryPoint i)) ++ z) (entry_names_kept is x)
      ∙ sym (map-append f (g (named_by EntryPoint i)) (entry_names is x))))

  entries_kept : (is : List PlainInst) (o : Option ℕ) → entries_of (map (retold f) is) o ≡ map f (entries_of is o)
  entries_kept is None = refl
  entries_kept is (Some x) = entry_names_kept is x

  entry_mark_kept : (ts : List (List ℕ)) → entry_mark (entry_lines (map f ts)) ≡ entry_mark (entry_lines ts)
  entry_mark_kept [] = refl
  entry_mark_kept (t ∷ ts) = refl

  entry_line_same : (t : List ℕ) → Same 1 1 (entry_line t) (entry_line (f t))
  entry_line_same t =
      let a = codes "<B><BR/>" in
      let b = codes "</B>" in
      same-append 1 1 1 a a (label_text t ++ b) (label_text (f t) ++ b) (same_itself 1 a)
      (same-append 1 1 1 (label_text t) (label_text (f t)) b b (label_same t) (same_itself 1 b))

  entry_lines_same : (ts : List (List ℕ)) → Same 1 1 (entry_lines ts) (entry_lines (map f ts))
  entry_lines_same [] = same_nil 1
  entry_lines_same (t ∷ ts) =
      same-append 1 1 1 (entry_line t) (entry_line (f t)) (entry_lines ts) (entry_lines (map f ts)) (entry_line_same t)
      (entry_lines_same ts)

shown_unmarked : (x : Option ℕ) → HasNoMark (shown_id x)
shown_unmarked None = record { all = refl }
shown_unmarked (Some x) = unmarked-append (codes "%") (decimal x) (record { all = refl }) (decimal_unmarked x)

marks_level : (t : List ℕ) (b : Bool) → IsLevel (entry_mark t ++ (declaration_mark b ++ codes ";\n"))
marks_level [] true = record { level = refl }
marks_level [] false = record { level = refl }
marks_level (c ∷ t) true = record { level = refl }
marks_level (c ∷ t) false = record { level = refl }

call_level : (from to : Option ℕ) → IsLevel (call_edge from to)
call_level from None = record { level = refl }
call_level from (Some x) =
    level-append (codes "  ") (node_name from ++ (codes " -> " ++ (node_name (Some x) ++ codes ";\n")))
    (record { level = refl })
    (level-append (node_name from) (codes " -> " ++ (node_name (Some x) ++ codes ";\n")) (name_level from)
    (level-append (codes " -> ") (node_name (Some x) ++ codes ";\n") (record { level = refl })
    (level-append (node_name (Some x)) (codes ";\n") (name_level (Some x)) (record { level = refl }))))

calls_level : (from : Option ℕ) (body : List PlainInst)
    → IsLevel (flat_map (λ (j : PlainInst). call_edge from (callee_of j)) body)
calls_level from [] = record { level = refl }
calls_level from (i ∷ body) =
    level-append (call_edge from (callee_of i)) (flat_map (λ (j : PlainInst). call_edge from (callee_of j)) body)
    (call_level from (callee_of i)) (calls_level from body)

moved : (s t u : List ℕ) → u ≡ t → Same 0 0 s t → Same 0 0 s u
moved s t u q h = rw q h

module _ (f : List ℕ → List ℕ) where
  function_label_same : (x : Option ℕ) (name : Option (List ℕ)) (ts : List (List ℕ))
      → Same 0 0 (function_label x name (entry_lines ts))
      (function_label x (option_map f name) (entry_lines (map f ts)))
  function_label_same x name ts =
      let a = codes " [label=<" in
      let b = codes ">]" in
      let s = shown_id x in
      let n = name_line name in
      let m = name_line (option_map f name) in
      let e = entry_lines ts in
      let g = entry_lines (map f ts) in
      same-append 0 1 0 a a (s ++ (n ++ (e ++ b))) (s ++ (m ++ (g ++ b))) (same_itself 0 a)
      (same-append 1 1 0 s s (n ++ (e ++ b)) (m ++ (g ++ b)) (same_texts s s (shown_unmarked x) (shown_unmarked x))
      (same-append 1 1 0 n m (e ++ b) (g ++ b) (name_line_same f name)
      (same-append 1 1 0 e g b b (entry_lines_same f ts) (same_itself 1 b))))

  node_same : (x : Option ℕ) (name : Option (List ℕ)) (ts : List (List ℕ)) (b : Bool)
      → Same 0 0 (function_node x name (entry_lines ts) b)
      (function_node x (option_map f name) (entry_lines (map f ts)) b)
  node_same x name ts b =
      let a = codes "  " in
      let n = node_name x in
      let last = declaration_mark b ++ codes ";\n" in
      let l = function_label x name (entry_lines ts) in
      let k = function_label x (option_map f name) (entry_lines (map f ts)) in
      let m = entry_mark (entry_lines ts) ++ last in
      let q : function_node x (option_map f name) (entry_lines (map f ts)) b ≡ a
      ++ (n ++ (k ++ m)) = ap (λ c. a ++ (n ++ (k ++ (c ++ last)))) (entry_mark_kept f ts) in
      moved (a ++ (n ++ (l ++ m))) (a ++ (n ++ (k ++ m)))
      (function_node x (option_map f name) (entry_lines (map f ts)) b) q
      (same-append 0 0 0 a a (n ++ (l ++ m)) (n ++ (k ++ m)) (same_itself 0 a)
      (same-append 0 0 0 n n (l ++ m) (k ++ m) (same_level n (name_level x))
      (same-append 0 0 0 l k m m (function_label_same x name ts) (same_level m (marks_level (entry_lines ts) b)))))

  function_same : (is g : List PlainInst)
      → Same 0 0 (function_text is g) (function_text (map (retold f) is) (map (retold f) g))
  function_same is [] = same_nil 0
  function_same is (i ∷ body) =
      let js = map (retold f) is in
      let x = result_in i.operands in
      let y = result_in (map (retold_operand f) i.operands) in
      let r = result_kept f i.operands in
      let b = has_label body in
      let calls = λ (from : Option ℕ) (js : List PlainInst). flat_map
      (λ (j : PlainInst). call_edge from (callee_of j)) js in
      let after = map (retold f) body in
      let text = λ (z : Option ℕ). function_node z (option_and_then (name_of Name js) z) (entry_lines (entries_of js z))
      (has_label after) ++ calls z after in
      let name = option_and_then (name_of Name is) x in
      let ts = entries_of is x in
      let node = function_node x (option_map f name) (entry_lines (map f ts)) b in
      let q : text y ≡ node ++ calls x body
      = ap text r ∙ (ap (λ z. function_node x z (entry_lines (entries_of js x)) (has_label after) ++ calls x after)
      (name_at_kept f Name is x)
      ∙ (ap (λ z. function_node x (option_map f name) (entry_lines z) (has_label after) ++ calls x after)
      (entries_kept f is x)
      ∙ (ap (λ z. function_node x (option_map f name) (entry_lines (map f ts)) z ++ calls x after) (label_kept f body)
      ∙ ap (λ z. node ++ z) (calls_kept f x body)))) in
      moved (function_text is (i ∷ body)) (node ++ calls x body) (text y) q
      (same-append 0 0 0 (function_node x name (entry_lines ts) b) node (calls x body) (calls x body)
      (node_same x name ts b) (same_level (calls x body) (calls_level x body)))

  functions_same : (is : List PlainInst) (gs : List (List PlainInst))
      → Same 0 0 (flat_map (function_text is) gs)
      (flat_map (function_text (map (retold f) is)) (map (map (retold f)) gs))
  functions_same is [] = same_nil 0
  functions_same is (g ∷ gs) =
      same-append 0 0 0 (function_text is g) (function_text (map (retold f) is) (map (retold f) g))
      (flat_map (function_text is) gs) (flat_map (function_text (map (retold f) is)) (map (map (retold f)) gs))
      (function_same is g)
      (functions_same is gs)

  -- the frame does not depend on the texts
  pub call_frame : (is : List PlainInst)
      → frame_of (call_graph_text is) ≡ frame_of (call_graph_text (map (retold f) is))
  call_frame is =
      let js = map (retold f) is in
      let a = codes "strict digraph \"calls\" {\n  node [shape=box label=\"%\\N\"];\n" in
      let b = codes "}\n" in
      let t = flat_map (function_text is) (functions is) in
      let u = flat_map (function_text js) (map (map (retold f)) (functions is)) in
      let g : functions js ≡ map (map (retold f)) (functions is) = groups-map (retold f)
      (λ (i : PlainInst). begins_function i.opcode) (λ (i : PlainInst). ends_function i.opcode) is in
      let q : call_graph_text js ≡ a ++ (u ++ b) = ap (λ z. a ++ (flat_map (function_text js) z ++ b)) g in
      framed (call_graph_text is) (call_graph_text js)
      (moved (call_graph_text is) (a ++ (u ++ b)) (call_graph_text js) q
      (same-append 0 0 0 a a (t ++ b) (u ++ b) (same_itself 0 a)
      (same-append 0 0 0 t u b b (functions_same is (functions is)) (same_itself 0 b))))
