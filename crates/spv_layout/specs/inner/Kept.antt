-- What a plan keeps of instructions, and the places that it gives. (For the code alone; `IsPlan` says what the places
-- are.)
use Rattle.std.specs.Prelude.{◌≡◌, ◌≢◌, ◌<◌, ◌≤◌, ℕ, ◌+◌, slice_get, List, []}
use Rattle.std.specs.Prelude.{◌∷◌, ◌++◌, if◌then◌else◌, Option, Some, None, nat_lt, map, length}
use Rattle.spv_layout.specs.declared.place.Early.{Early}
use Rattle.spv_layout.specs.declared.place.Standing.{Standing}
use Rattle.spv_layout.specs.declared.place.Place.{Place}
use Rattle.spv_layout.specs.declared.span.Spans.{Spans}
use Rattle.spv_module.specs.Operand.{PlainInst}
use Rattle.spv_layout.specs.declared.class.Class.{Class}
use Rattle.spv_layout.specs.Layout.{classes}
use Rattle.spv_layout.specs.Place.{section_of}
use Rattle.spv_layout.specs.inner.Span.{mark}

abbrev pub early_place : Early → Place
early_place e = record { section = e.section; function = None; block = None; word = e.word }

-- the section of instruction n, where sections 10 and 11 begin at these instructions
abbrev pub late_section : ℕ → ℕ → ℕ → ℕ
late_section functions definitions n = if nat_lt n functions then 11 else if nat_lt n definitions then 12 else 13

abbrev pub late_place : ℕ → ℕ → ℕ → Standing → Place
late_place functions definitions n s =
    record {
      section = late_section functions definitions n;
      function = mark s.function;
      block = mark s.block;
      word =
          s.word;
    }

-- the places of instructions from number n on
abbrev pub late_places : ℕ → ℕ → ℕ → List Standing → List Place
late_places functions definitions n [] = []
late_places functions definitions n (s ∷ ss) =
    late_place functions definitions n s ∷ late_places functions definitions (n + 1) ss

abbrev pub places_in : ℕ → ℕ → List Early → List Standing → List Place
places_in functions definitions early late =
    map early_place early ++ late_places functions definitions (length early) late

-- what is kept after an instruction more, of a class with a section or without
abbrev pub early_with : Option ℕ → ℕ → List Early → List Early
early_with None word es = es
early_with (Some section) word es = es ++ (record { section = section; word = word } ∷ [])

abbrev pub late_with : Option ℕ → Spans → ℕ → List Standing → List Standing
late_with None spans word ss = ss ++ (record { function = spans.function; block = spans.block; word = word } ∷ [])
late_with (Some section) spans word ss = ss

-- Each instruction before n is of a class that stands in one section alone.
pub record AreSectioned (is : List PlainInst) (n : ℕ) : Type 0 where
  pub each : (k : ℕ) (c : Class) → k < n → slice_get (classes is) k ≡ Some c → section_of c ≢ None

-- Instruction n, if there is one, is of no such class.
abbrev pub IsUnsectioned : List PlainInst → ℕ → Type 0
IsUnsectioned is n = (c : Class) → slice_get (classes is) n ≡ Some c → section_of c ≡ None

-- What is kept of instructions of sections 1 to 8 tells one of these, the last as 10, and all of them stand before the
-- first OpFunction.
pub record AreEarly (functions : ℕ) (es : List Early) : Type 0 where
  pub sections : (k : ℕ) (e : Early) → slice_get es k ≡ Some e → e.section ≤ 10
  pub before : length es ≤ functions
