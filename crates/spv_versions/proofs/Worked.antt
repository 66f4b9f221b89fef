-- Worked examples.
use Rattle.std.proofs.Common.{◌≡◌, ◌<◌, ◌∙◌, ◌||◌, ◌&&◌, ℕ, zero, suc, List, [], ◌∷◌, Bool, true, false, not, Some}
use Rattle.std.proofs.Common.{codes, lit<, nat_le, length, refl, sym, ap, inl, inr, arith}
use Rattle.std.specs.Prelude.{slice_get, Contains}
use Rattle.std.specs.List.{list_all}
use Rattle.std.specs.Str.{bytes_eq}
use Rattle.std.proofs.lemmas.Bool.{and_from, and_parts, both_ways, false≢true, le-leb, or_cases, not-true}
use Rattle.std.proofs.lemmas.Option.{none-some, same_Some, slice_get-get_or}
use Rattle.std.proofs.lemmas.Slice.Eq.{bytes_eq-Decides}
use Rattle.spv_module.specs.declared.opcode.TheConstants as opcode
use Rattle.spv_module.specs.Operand.{Text, PlainInst}
use Rattle.spv_type_forms.specs.Example.{inst}
use Rattle.spv_versions.specs.declared.table.Kind.TheVariants as kind
use Rattle.spv_versions.specs.Missing.{IsMissing}
use Rattle.spv_versions.specs.Named.{IsDeclared}
use Rattle.spv_versions.specs.Table.{Line, Text as Name, lines}
use Rattle.spv_versions.specs.Example.{extended}

pub declared_there : IsDeclared extended (codes "SPV_KHR_16bit_storage")
declared_there = record {
  place = 0;
  inst = inst opcode.EXTENSION (Text (codes "SPV_KHR_16bit_storage") ∷ []);
  there = refl;
  opcode = refl;
  rest = [];
  operands = refl;
}

only_declared : (x : List ℕ) → IsDeclared extended x → codes "SPV_KHR_16bit_storage" ≡ x
only_declared x d = at d.place d.there
  where
    at : (n : ℕ) → slice_get extended n ≡ Some d.inst → codes "SPV_KHR_16bit_storage" ≡ x
    at zero e =
        let same : inst opcode.EXTENSION (Text (codes "SPV_KHR_16bit_storage") ∷ []) ≡ d.inst = same_Some _ d.inst e in
        let all : Text (codes "SPV_KHR_16bit_storage") ∷ [] ≡ Text x ∷ d.rest =
        ap (λ (j : PlainInst). j.operands) same ∙ d.operands in
        cc
    at (suc n) e = absurd (none-some d.inst e)

pub not_declared : ¬ (IsDeclared extended (codes "SPV_KHR_8bit_storage"))
not_declared d =
    let e = only_declared (codes "SPV_KHR_8bit_storage") d in
    false≢true ((bytes_eq-Decides (codes "SPV_KHR_16bit_storage") (codes "SPV_KHR_8bit_storage")).1 e)

-- of each line that has 4433 the extension has what it speaks of
abbrev named : Name
named = record { now = codes "SPV_KHR_16bit_storage" }

abbrev first_named : List Name → Bool
first_named [] = false
first_named (name ∷ names) = bytes_eq name.now (codes "SPV_KHR_16bit_storage")

abbrev has_it : Line → Bool
has_it l = not (nat_le l.1 4433 && nat_le 4433 l.2) || first_named l.4.now

each_has : list_all has_it lines ≡ true
unfolding lines
each_has = refl

all_at : (ls : List Line) (k : ℕ) (l : Line) → list_all has_it ls ≡ true → slice_get ls k ≡ Some l → has_it l ≡ true
all_at [] k l a e = absurd (none-some l e)
all_at (m ∷ ls) zero l a e = ap has_it (sym (same_Some m l e)) ∙ (and_parts (has_it m) (list_all has_it ls) a).0
all_at (m ∷ ls) (suc k) l a e = all_at ls k l (and_parts (has_it m) (list_all has_it ls) a).1 e

first_has : (ns : List Name) → first_named ns ≡ true → Contains ns named
first_has [] e = absurd (false≢true e)
first_has (n ∷ ns) e =
    let l : 0 < suc (length ns) = omega arith in (
      0,
      l,
      ap (λ (x : List ℕ). let t : Name = record { now = x } in t)
          ((bytes_eq-Decides n.now (codes "SPV_KHR_16bit_storage")).0 e),
    )

pub not_missing : ¬ (IsMissing 2 extended kind.Capability 4433)
not_missing m =
    let at : slice_get lines m.listed.0 ≡ Some m.line =
    slice_get-get_or lines m.listed.0 m.line m.listed.1 ∙ ap Some m.listed.2 in
    let within = nat_le m.line.1 4433 && nat_le 4433 m.line.2 in
    elim (or_cases (not within) (first_named m.line.4.now) (all_at lines m.listed.0 m.line each_has at)) [
      | inl a ↦ both_ways within (not-true within a)
          (and_from (nat_le m.line.1 4433) (nat_le 4433 m.line.2) (le-leb m.line.1 4433 m.of.1)
          (le-leb 4433 m.line.2 m.of.2))
      | inr b ↦ m.undeclared named (first_has m.line.4.now b) declared_there
    ]

pub missing_first : IsMissing 0 extended kind.Opcode 321
unfolding lines
missing_first = record {
  line = (kind.Opcode, 321, 321, Some 1, record { now = [] });
  listed = (0, lit< tt, refl);
  of = (refl, omega arith, omega arith);
  before = lit< tt;
  undeclared = λ name has d. let l : has.0 < 0 = has.1 in omega (arith, l);
}
