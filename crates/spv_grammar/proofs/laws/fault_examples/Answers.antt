use Rattle.std.proofs.Common.{◌≡◌, ◌≤◌, ℕ, List, [], ◌∷◌, ◌⊎◌, length, Option, Some, None, codes, string_bytes, inl, inr, refl, sym, ap, subst, ◌∙◌, arith}
use Rattle.std.specs.Prelude.{IsUtf8}
use Rattle.serde_json.specs.Data.{Data, object, no_members}
use Rattle.serde_json.specs.Read.{read}
use Rattle.serde_json.proofs.OnLiterals.{serde_json_on_literals}
use Rattle.spv_grammar.specs.declared.steps.Step.{Step}
use Rattle.spv_grammar.specs.declared.steps.Step.TheVariants.{Stay, Key, Item}
use Rattle.spv_grammar.specs.declared.error.GrammarError.{GrammarError}
use Rattle.spv_grammar.specs.declared.error.GrammarError.TheVariants.{J2, J3}
use Rattle.spv_grammar.specs.Answer.{tree_breaks, text_breaks}
use Rattle.spv_grammar.specs.Example.{empty_tree}
use Rattle.spv_grammar.specs.Place.{leads_to, found_shown, PlacedBy}
use Rattle.spv_grammar.proofs.Whole.{some_same, not_some}
use Rattle.spv_grammar.proofs.laws.fault_examples.Goals as goal

-- ---- the text of an object without keys

abbrev it : Data
it = object no_members

read_it : read (codes "{}") ≡ Some it
unfolding serde_json_on_literals
read_it = refl

utf8_it : IsUtf8 (codes "{}")
unfolding lib.Utf8.encode
utf8_it = (codes "{}", (refl, refl))

-- J2 and no other code is broken
abbrev is_J2 : Option GrammarError → ℕ
is_J2 (Some J2) = 1
is_J2 _ = 0

-- steps lead to the object or nowhere
led : (ss : List Step) → (leads_to ss it ≡ Some it) ⊎ (leads_to ss it ≡ None)
led [] = inl refl
led (Stay ∷ ss) = led ss
led (Key key ∷ ss) = inr refl
led (Item place ∷ ss) = inr refl

-- so what is found there is told by at least seven octets
long_found : (ss : List Step) → 7 ≤ length (found_shown (leads_to ss it))
long_found ss = by (led ss) where
  by : (leads_to ss it ≡ Some it) ⊎ (leads_to ss it ≡ None) → 7 ≤ length (found_shown (leads_to ss it))
  by (inl e) = rw e (omega arith)
  by (inr e) = rw e (omega arith)

pub returns-clause-fault : goal.returns-clause-fault
returns-clause-fault c = λ f code path found. record {
  breaks = subst (text_breaks (codes "{}")) (sym code) (it, utf8_it, read_it, refl);
  placed = subst (λ e. PlacedBy e (codes "{}") (string_bytes f.path) (string_bytes f.found)) (sym code) (it, read_it, record { steps = Key (record { ref_ptr = (0, 0); now = codes "instructions" }) ∷ []; path_is = path; found_is = found });
}

pub returns-clause-other_code : goal.returns-clause-other_code
returns-clause-other_code c = λ f code h.
    let broken = subst (text_breaks (codes "{}")) code h.breaks in
    let same : it ≡ broken.0 = some_same (sym read_it ∙ broken.2) in
    let twice : is_J2 (Some J3) ≡ is_J2 (Some J2) = ap is_J2 (sym broken.3 ∙ ap tree_breaks (sym same)) in
    omega (arith, twice)

pub returns-clause-other_found : goal.returns-clause-other_found
returns-clause-other_found c = λ f code found h.
    let placed = subst (λ e. PlacedBy e (codes "{}") (string_bytes f.path) (string_bytes f.found)) code h.placed in
    let same : it ≡ placed.0 = some_same (sym read_it ∙ placed.1) in
    let shown : string_bytes f.found ≡ found_shown (leads_to placed.2.steps it) = placed.2.found_is ∙ ap (λ d. found_shown (leads_to placed.2.steps d)) (sym same) in
    let long = long_found placed.2.steps in
    let short : length (string_bytes f.found) ≡ 1 = ap length found in
    let all = ap length shown in
    omega (arith, long, short, all)

-- ---- what is told

read_empty : read (codes "{\"instructions\":[],\"operand_kinds\":[]}") ≡ Some empty_tree
unfolding serde_json_on_literals
read_empty = refl

utf8_empty : IsUtf8 (codes "{\"instructions\":[],\"operand_kinds\":[]}")
unfolding lib.Utf8.encode
utf8_empty = (codes "{\"instructions\":[],\"operand_kinds\":[]}", (refl, refl))

pub returns-clause-nothing : goal.returns-clause-nothing
returns-clause-nothing c = record { tree = empty_tree; utf8 = utf8_empty; is_tree = read_empty; unbroken = refl }

pub returns-clause-something : goal.returns-clause-something
returns-clause-something c = λ h.
    let same : it ≡ h.tree = some_same (sym read_it ∙ h.is_tree) in
    not_some J2 (sym h.unbroken ∙ ap tree_breaks (sym same))
