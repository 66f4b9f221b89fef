-- The name at the front of a line.
use Rattle.std.proofs.Common.{◌≡◌, ◌++◌, ℕ, List, ◌∙◌, sym, ap, arith}
use Rattle.std.specs.Str.Pattern.{FindsTextPrefix, StripsPrefix}
use Rattle.spv_table.specs.declared.table.Entry.{Entry}
use Rattle.spv_table.specs.Table.{Table}
use Rattle.spv_lines.specs.Line.{IsInstName, before_space, from_space}
use Rattle.spv_lines.specs.Refusal.{IsBreak}
use Rattle.spv_lines.proofs.Pieces.{names_tame}
use Rattle.spv_lines.proofs.Showing.{token_before, token_behind}

-- what `strip_prefix` leaves of a text
pub stripped : (p s x : List ℕ) → StripsPrefix (FindsTextPrefix p) s x → s ≡ p ++ x
stripped p s x h = h.1.1 ∙ ap (λ z. p ++ z) (sym h.2)

-- a name, and behind it a break
pub name_again : (G : Table) (n text rest : List ℕ) (x : ℕ) (e : Entry) → IsInstName G n x e → text ≡ n ++ rest
    → IsBreak rest → IsInstName G (before_space text) x e × (rest ≡ from_space text)
name_again G n text rest x e i a b =
    let r = i.range in
    let m = names_tame _ x n (omega (arith, r)) i.named in
    let f : before_space text ≡ n = rw a (token_before n rest m b) in
    let g : from_space text ≡ rest = rw a (token_behind n rest m b) in
    (rw f i, sym g)
