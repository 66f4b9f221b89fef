use Rattle.std.proofs.Common.{◌≡◌, ◌≢◌, ◌≤◌, ◌<◌, ◌%◌, ◌∙◌, sym, subst, arith, ℕ, List, length, slice_index}
use Rattle.spv_words.proofs.Standing.{Octets, words-stand, one_telling, module-tells, module-long, stands-groups}
use Rattle.spv_words.specs.declared.words.Order.{Order}
use Rattle.spv_words.specs.declared.words.WordError.{WordError}
use Rattle.spv_words.specs.declared.words.WordError.TheVariants as code
use Rattle.spv_words.specs.Words.{words_of}
use Rattle.spv_words.specs.Header.{magic_number, version_number, greatest_bound, greatest_size, IsModule, StandInOrder, BytesKeep, place_of, IsFirstBroken}
use Rattle.spv_words.specs.inner.HeaderTest.{PassesTest, Breaks}

-- bytes that passed the tests up to the magic number
pub record Found (o : Order) (bs : List ℕ) : Type 0 where
  pub size : length bs ≤ greatest_size
  pub least : 20 ≤ length bs
  pub groups : length bs % 4 ≡ 0
  pub octets : Octets bs
  pub magic : slice_index (words_of o bs) 0 ≡ magic_number

pub telling : (o : Order) (bs : List ℕ) → Found o bs → StandInOrder o bs (words_of o bs)
telling o bs f = record { stands = words-stand o bs f.octets f.groups; magic = f.magic }

-- what holds of the words that were found holds of any words that the bytes tell
pub every : (o p : Order) (bs ws : List ℕ) (P : List ℕ → Type 0) → Found o bs → StandInOrder p bs ws → P (words_of o bs) → P ws
every o p bs ws P f t h =
    let l = f.least in
    subst P (one_telling o p bs (words_of o bs) ws (omega arith) (telling o bs f) t).1 h

before_version : (o : Order) (bs : List ℕ) → Found o bs → (d : WordError) → place_of d < 5 → BytesKeep d bs
before_version o bs f code.W1 h = tt
before_version o bs f code.W2 h = f.least
before_version o bs f code.W3 h = f.groups
before_version o bs f code.W4 h = (o, (words_of o bs, telling o bs f))
before_version o bs f code.W5 h = absurd (omega arith)
before_version o bs f code.W6 h = absurd (omega arith)
before_version o bs f code.W7 h = absurd (omega arith)
before_version o bs f code.W8 h = f.size
before_version o bs f code.W9 h = tt

pub broken_version : (o : Order) (bs : List ℕ) → Found o bs → slice_index (words_of o bs) 1 ≢ version_number → IsFirstBroken code.W5 bs
broken_version o bs f ne = record { broken = λ k. ne (k o (words_of o bs) (telling o bs f)); before = before_version o bs f }

before_schema : (o : Order) (bs : List ℕ) → Found o bs → slice_index (words_of o bs) 1 ≡ version_number → (d : WordError) → place_of d < 6 → BytesKeep d bs
before_schema o bs f v code.W1 h = tt
before_schema o bs f v code.W2 h = f.least
before_schema o bs f v code.W3 h = f.groups
before_schema o bs f v code.W4 h = (o, (words_of o bs, telling o bs f))
before_schema o bs f v code.W5 h = λ p ws t. every o p bs ws (λ (vs : List ℕ). slice_index vs 1 ≡ version_number) f t v
before_schema o bs f v code.W6 h = absurd (omega arith)
before_schema o bs f v code.W7 h = absurd (omega arith)
before_schema o bs f v code.W8 h = f.size
before_schema o bs f v code.W9 h = tt

pub broken_schema : (o : Order) (bs : List ℕ) → Found o bs → slice_index (words_of o bs) 1 ≡ version_number → slice_index (words_of o bs) 4 ≢ 0 → IsFirstBroken code.W6 bs
broken_schema o bs f v ne = record { broken = λ k. ne (k o (words_of o bs) (telling o bs f)); before = before_schema o bs f v }

before_bound : (o : Order) (bs : List ℕ) → Found o bs → slice_index (words_of o bs) 1 ≡ version_number → slice_index (words_of o bs) 4 ≡ 0 → (d : WordError) → place_of d < 7 → BytesKeep d bs
before_bound o bs f v s code.W1 h = tt
before_bound o bs f v s code.W2 h = f.least
before_bound o bs f v s code.W3 h = f.groups
before_bound o bs f v s code.W4 h = (o, (words_of o bs, telling o bs f))
before_bound o bs f v s code.W5 h = λ p ws t. every o p bs ws (λ (vs : List ℕ). slice_index vs 1 ≡ version_number) f t v
before_bound o bs f v s code.W6 h = λ p ws t. every o p bs ws (λ (vs : List ℕ). slice_index vs 4 ≡ 0) f t s
before_bound o bs f v s code.W7 h = absurd (omega arith)
before_bound o bs f v s code.W8 h = f.size
before_bound o bs f v s code.W9 h = tt

pub broken_bound : (o : Order) (bs : List ℕ) → Found o bs → slice_index (words_of o bs) 1 ≡ version_number → slice_index (words_of o bs) 4 ≡ 0
    → ((1 ≤ slice_index (words_of o bs) 3) × (slice_index (words_of o bs) 3 ≤ greatest_bound) → ⊥) → IsFirstBroken code.W7 bs
broken_bound o bs f v s ne = record { broken = λ k. ne (k o (words_of o bs) (telling o bs f)); before = before_bound o bs f v s }

pub found_module : (o : Order) (bs : List ℕ) → Found o bs → slice_index (words_of o bs) 1 ≡ version_number → slice_index (words_of o bs) 4 ≡ 0
    → 1 ≤ slice_index (words_of o bs) 3 → slice_index (words_of o bs) 3 ≤ greatest_bound → IsModule o bs (words_of o bs)
found_module o bs f v s least most =
    let st = words-stand o bs f.octets f.groups in
    let w = st.whole in
    let l = f.least in
    record {
      stands = st;
      header = record { five = omega arith; magic = f.magic; version = v; bound_least = least; bound_most = most; schema = s };
      size = f.size;
    }

-- a module keeps what each code asks
pub module-keeps : (o : Order) (bs ws : List ℕ) → IsModule o bs ws → (e : WordError) → BytesKeep e bs
module-keeps o bs ws m code.W1 = tt
module-keeps o bs ws m code.W2 = module-long o bs ws m
module-keeps o bs ws m code.W3 = stands-groups o bs ws m.stands
module-keeps o bs ws m code.W4 = (o, (ws, module-tells o bs ws m))
module-keeps o bs ws m code.W5 = λ p vs t. let l = module-long o bs ws m in subst (λ (us : List ℕ). slice_index us 1 ≡ version_number) (one_telling o p bs ws vs (omega arith) (module-tells o bs ws m) t).1 m.header.version
module-keeps o bs ws m code.W6 = λ p vs t. let l = module-long o bs ws m in subst (λ (us : List ℕ). slice_index us 4 ≡ 0) (one_telling o p bs ws vs (omega arith) (module-tells o bs ws m) t).1 m.header.schema
module-keeps o bs ws m code.W7 = λ p vs t. let l = module-long o bs ws m in subst (λ (us : List ℕ). (1 ≤ slice_index us 3) × (slice_index us 3 ≤ greatest_bound)) (one_telling o p bs ws vs (omega arith) (module-tells o bs ws m) t).1 (m.header.bound_least, m.header.bound_most)
module-keeps o bs ws m code.W8 = m.size
module-keeps o bs ws m code.W9 = tt

-- the first code that the header breaks is the first that the bytes break
pub broken_header : (o : Order) (bs : List ℕ) (version schema bound : ℕ) (e : WordError) → Found o bs
    → version ≡ slice_index (words_of o bs) 1 → schema ≡ slice_index (words_of o bs) 4 → bound ≡ slice_index (words_of o bs) 3
    → Breaks e version schema bound → IsFirstBroken e bs
broken_header o bs version schema bound code.W1 f v s b h = absurd h
broken_header o bs version schema bound code.W2 f v s b h = absurd h
broken_header o bs version schema bound code.W3 f v s b h = absurd h
broken_header o bs version schema bound code.W4 f v s b h = absurd h
broken_header o bs version schema bound code.W5 f v s b h = broken_version o bs f (λ x. h (v ∙ x))
broken_header o bs version schema bound code.W6 f v s b h = broken_schema o bs f (sym v ∙ h.0) (λ x. h.1 (s ∙ x))
broken_header o bs version schema bound code.W7 f v s b h = broken_bound o bs f (sym v ∙ h.0) (sym s ∙ h.1) (rw b at h.2)
broken_header o bs version schema bound code.W8 f v s b h = absurd h
broken_header o bs version schema bound code.W9 f v s b h = absurd h

-- and one that fits is a module's
pub fitting_header : (o : Order) (bs : List ℕ) (version schema bound : ℕ) → Found o bs
    → version ≡ slice_index (words_of o bs) 1 → schema ≡ slice_index (words_of o bs) 4 → bound ≡ slice_index (words_of o bs) 3
    → PassesTest version schema bound → IsModule o bs (words_of o bs)
fitting_header o bs version schema bound f v s b h =
    let least = h.bound_least in
    let most = h.bound_most in
    found_module o bs f (sym v ∙ h.right_version) (sym s ∙ h.right_schema) (omega arith) (omega arith)
