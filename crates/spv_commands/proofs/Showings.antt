-- What is shown of bytes that were read.
use Rattle.std.proofs.Common.{◌≡◌, ◌+◌, ◌-◌, ℕ, List, IfOk, Bool, false, ◌∙◌, drop, ap, refl, sym, subst, arith}
use Rattle.spv_words.specs.Header.{IsModule}
use Rattle.spv_words.specs.declared.words.Header.{Header}
use Rattle.spv_words.specs.declared.words.Order.{Order}
use Rattle.spv_table.specs.Table.{Table}
use Rattle.spv_module.specs.Operand.{PlainInst}
use Rattle.spv_module.specs.Instruction.{IsListing}
use Rattle.spv_inst.specs.Outcome.{IsDecodeFault, IsHeaderOf}
use Rattle.spv_module.specs.declared.fault.Stop.{Stop}
use Rattle.spv_module.specs.declared.fault.Stop.TheVariants.{Fault as Dies, Memory}
use Rattle.spv_lines.specs.Text.{IsShownText}
use Rattle.spv_extended.specs.declared.reach.Reach.{Reach}
use Rattle.spv_extended.specs.declared.reach.Reach.TheVariants.{Profile}
use Rattle.spv_scope.specs.Scope.{told_text}
use Rattle.spv_check.specs.Reading.{IsReading}
use Rattle.spv_check.specs.Verdict.{fault_line, refused_line}
use Rattle.spv_check.proofs.Verdicts.{Laws, dead_list, same_module}
use Rattle.spv_commands.specs.Show.{IsShowing, refused, dead, shown}
use Rattle.spv_commands.specs.inner.Shown.{is_text, output_of, shown_stop}

-- words that are no list of instructions
pub dead_shown : (G : Table) (reach : Reach) (bytes words : List ℕ) (order : Order) (s : Stop) → IsModule order bytes words
    → IsDecodeFault G words s
    → IfOk (shown_stop s) (λ s. IsShowing G reach bytes (output_of s) (is_text s))
dead_shown G reach bytes words order Memory h d = tt
dead_shown G reach bytes words order (Dies f) h d =
    let low = d.0 in
    let e : 5 + (f.word - 5) ≡ f.word = omega arith in
    subst (λ (n : ℕ). IsShowing G reach bytes (fault_line f.rule f.inst n) false) e
    (dead words order f.rule f.inst (f.word - 5) h d.1)

-- words have one header
same_header : (ws : List ℕ) (h k : Header) → IsHeaderOf ws h → IsHeaderOf ws k → h ≡ k
same_header ws h k s t =
    let v : h.version ≡ k.version = s.version ∙ sym t.version in
    let g : h.generator ≡ k.generator = s.generator ∙ sym t.generator in
    let b : h.bound ≡ k.bound = s.bound ∙ sym t.bound in
    let z : h.schema ≡ k.schema = s.schema ∙ sym t.schema in
    λ i. record { version = v i; generator = g i; bound = b i; schema = z i }

-- a module has one text
abbrev pub OneText : Type 0
OneText = (G : Table) (h : Header) (is : List PlainInst) (t u : List ℕ) → IsShownText G h is t → IsShownText G h is u
    → t ≡ u

-- what is shown is the list that words spell
spelled : (G : Table) (is : List PlainInst) (ws : List ℕ) → IsListing G is ws → IsReading G Profile is ws
spelled G is ws l = record { spelled = is; listing = l; seen = refl }

same_text : Laws → OneText
    → (G : Table) (bytes ws vs : List ℕ) (o p : Order) (h k : Header) (is js : List PlainInst) (t u : List ℕ)
    → IsModule o bytes ws → IsModule p bytes vs
    → IsHeaderOf ws h → IsHeaderOf vs k → IsListing G is (drop 5 ws) → IsListing G js (drop 5 vs) → IsShownText G h is t
    → IsShownText G k js u → t ≡ u
same_text laws one G bytes ws vs o p h k is js t u m n a b l d x y =
    let same = same_module laws G Profile bytes ws vs o p is js m n (spelled G is (drop 5 ws) l)
    (spelled G js (drop 5 vs) d) in
    let b' : IsHeaderOf ws k = rw same.words b in
    let header = same_header ws h k a b' in
    let y' : IsShownText G h is u = rw (header, same.insts) y in
    one G h is t u x y'

-- what two showings share
pub record SameShowing (o p : List ℕ) (a b : Bool) : Type 0 where
  pub output : o ≡ p
  pub answer : a ≡ b

pub one_showing : Laws → OneText → (G : Table) (reach : Reach) (bytes o p : List ℕ) (a b : Bool) → IsShowing G reach bytes o a
    → IsShowing G reach bytes p b → SameShowing o p a b
one_showing laws one G reach bytes _ _ _ _ (refused c x) (refused d y) =
    record { output = ap refused_line (laws.once c d bytes x y); answer = refl }
one_showing laws one G reach bytes _ _ _ _ (refused c x) (dead vs p r i n g d) = absurd (laws.never c p bytes vs g x)
one_showing laws one G reach bytes _ _ _ _ (refused c x) (shown vs p k js u g b d y) = absurd (laws.never c p bytes vs g x)
one_showing laws one G reach bytes _ _ _ _ (dead ws o r i n h d) (refused c y) = absurd (laws.never c o bytes ws h y)
one_showing laws one G reach bytes _ _ _ _ (dead ws o r i n h d) (dead vs p s j m g e) =
    let same : vs ≡ ws = (laws.words p o bytes vs ws g h).1 in
    let one = laws.death G (drop 5 ws) r s i j n m d (rw same at e) in
    record { output = rw (one.0, one.1, one.2) refl; answer = refl }
one_showing laws one G reach bytes _ _ _ _ (dead ws o r i n h d) (shown vs p k js u g b l y) =
    absurd (dead_list laws G Profile bytes vs ws p o js r i n g h (spelled G js (drop 5 vs) l) d)
one_showing laws one G reach bytes _ _ _ _ (shown ws o h is t m a l x) (refused c y) = absurd (laws.never c o bytes ws m y)
one_showing laws one G reach bytes _ _ _ _ (shown ws o h is t m a l x) (dead vs p r i n g d) =
    absurd (dead_list laws G Profile bytes ws vs o p is r i n m g (spelled G is (drop 5 ws) l) d)
one_showing laws one G reach bytes _ _ _ _ (shown ws o h is t m a l x) (shown vs p k js u n b d y) =
    record { output = ap (told_text reach) (same_text laws one G bytes ws vs o p h k is js t u m n a b l d x y); answer = refl }
