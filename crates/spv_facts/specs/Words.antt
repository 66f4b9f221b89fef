-- What the lines tell of words that spell no instruction. (Own.) Words count from word 5 of the module.
use Rattle.std.specs.Prelude.{◌+◌, ◌-◌, ◌/◌, ℕ, zero, suc, List, [], ◌∷◌, drop, length, nat_le, nat_lt, slice_get}
use Rattle.std.specs.Prelude.{slice_index, take, if◌then◌else◌}
use Rattle.spv_evidence.specs.declared.evidence.Evidence.{Evidence}
use Rattle.spv_facts.specs.declared.fact.Fact.{Fact}
use Rattle.spv_facts.specs.declared.fact.Fact.TheVariants as fact
use Rattle.spv_facts.specs.Facts.{evidence_facts}

-- the place of instruction n's first word: each before it has as many words as its first tells [2.3]
abbrev pub begin_of : List ℕ → ℕ → ℕ
begin_of ws zero = 0
begin_of ws (suc n) = begin_of ws n + slice_index ws (begin_of ws n) / 65536

-- how many words the one at a place tells, one at least; all that are left of the module where there are fewer
abbrev pub count_at : List ℕ → ℕ → ℕ
count_at ws at =
    (let told = slice_index ws at / 65536 in
    let count = if nat_lt told 1 then 1 else told in
    let left = length ws - at in
    if nat_lt left count then left else count)

-- the first of the 16 words that are told where an instruction has more: those around its word k
abbrev pub window_from : ℕ → ℕ → ℕ
window_from k count = if nat_le count 16 then 0 else (if nat_lt (count - 16) (k - 8) then count - 16 else k - 8)

-- of so many words at a place, those from one of them on that are told, 16 at most
abbrev pub told_count : ℕ → ℕ
told_count count = if nat_lt count 16 then count else 16

abbrev pub windowed : List ℕ → ℕ → ℕ → ℕ → Fact
windowed ws at count from = fact.Words (nat_lt 0 from) (take (told_count count) (drop (at + from) ws))
    (nat_lt (from + told_count count) count)

-- the words of the instruction at a place, around its word k
abbrev pub words_fact : List ℕ → ℕ → ℕ → Fact
words_fact ws at k = windowed ws at (count_at ws at) (window_from k (count_at ws at))

-- Of instruction n, which breaks a rule at the word of that number, with its evidence: its words, the failing one, and
-- what the evidence tells.
abbrev pub malformed_facts : List ℕ → ℕ → ℕ → Evidence → List Fact
malformed_facts ws n word e =
    (let at = begin_of ws n in
    words_fact ws at (word - at) ∷ fact.Word (word - at) (slice_get ws word) ∷ evidence_facts [] n e)
