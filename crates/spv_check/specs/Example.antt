-- The smallest kernel as words and as bytes.
use Rattle.std.specs.Prelude.{List, ℕ, [], ◌∷◌, Option, Some, None}
use Rattle.spv_module.specs.Spelling.{octets_of}
use Rattle.spv_layout.specs.declared.place.Place.{Place}
use Rattle.spv_check.specs.Kernel.{kernel}
use Rattle.spv_check.specs.Program.{Program}

abbrev pub kernel_program : Program
kernel_program = record { bound = 5; insts = kernel }

abbrev pub other_program : Program
other_program = record { bound = 6; insts = kernel }

-- what comes after the header
abbrev pub kernel_body : List ℕ
kernel_body =
    131089 ∷ 4 ∷  -- OpCapability Addresses
    131089 ∷ 6 ∷  -- OpCapability Kernel
    196622 ∷ 2 ∷ 2 ∷  -- OpMemoryModel Physical64 OpenCL
    262159 ∷ 6 ∷ 3 ∷ 107 ∷  -- OpEntryPoint Kernel %3 "k"
    131091 ∷ 1 ∷  -- %1 = OpTypeVoid
    196641 ∷ 2 ∷ 1 ∷  -- %2 = OpTypeFunction %1
    327734 ∷ 1 ∷ 3 ∷ 0 ∷ 2 ∷  -- %3 = OpFunction %1 None %2
    131320 ∷ 4 ∷  -- %4 = OpLabel
    65789 ∷  -- OpReturn
    65592 ∷  -- OpFunctionEnd
    []

-- The magic number, version 1.6, generator 0, bound 5 and schema 0.
abbrev pub kernel_words : List ℕ
kernel_words = 119734787 ∷ 67072 ∷ 0 ∷ 5 ∷ 0 ∷ kernel_body

-- four bytes for each word, the lowest first
abbrev pub kernel_bytes : List ℕ
kernel_bytes = octets_of kernel_words

abbrev pub place_at : ℕ → Option ℕ → Option ℕ → ℕ → Place
place_at section function block word = record { section = section; function = function; block = block; word = word }

-- Sections 1, 4 and 5; 9, as 11; and 11, as 13, in the function of instruction 6 and, up to the OpReturn, the block of
-- instruction 7.
abbrev pub kernel_places : List Place
kernel_places =
    place_at 1 None None 5 ∷
    place_at 1 None None 7 ∷
    place_at 4 None None 9 ∷
    place_at 5 None None 12 ∷
    place_at 11 None None 16 ∷
    place_at 11 None None 18 ∷
    place_at 13 (Some 6) None 21 ∷
    place_at 13 (Some 6) (Some 7) 26 ∷
    place_at 13 (Some 6) (Some 7) 28 ∷
    place_at 13 (Some 6) None 29 ∷
    []
