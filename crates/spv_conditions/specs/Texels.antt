-- The image operands of an instruction: a mask, and the values that it asks for. [3.14; 3.49.10; own: Y5]
use Rattle.std.specs.Prelude.{◌≡◌, ◌+◌, ◌&&◌, ◌||◌, ℕ, List, [], ◌∷◌, Bool, true, false, not, nat_eq, bit_and}
use Rattle.std.specs.Prelude.{if◌then◌else◌, IsTrue, IsSomeAnd, length, slice_get}
use Rattle.spv_module.specs.Operand.{Plain, Mask, PlainInst}
use Rattle.spv_type_forms.specs.declared.form.Sort.{Sort}
use Rattle.spv_type_forms.specs.declared.form.Sort.TheVariants as sort
use Rattle.spv_type_forms.specs.Types.{HasSort, IsFloat, IsSomeInt}
use Rattle.spv_conditions.specs.declared.asked.Texels.{Texels}
use Rattle.spv_conditions.specs.declared.asked.Texels.TheVariants as texels
use Rattle.spv_conditions.specs.Group.{IsConstantAt}
use Rattle.spv_conditions.specs.Image.{plane_in, image_behind, Counts}

-- the first mask among operands, or 0 [own]
abbrev pub mask_in : List Plain → ℕ
mask_in [] = 0
mask_in (Mask k m ∷ os) = m
mask_in (_ ∷ os) = mask_in os

abbrev pub has_bit : ℕ → ℕ → Bool
has_bit m b = not (nat_eq (bit_and m b) 0)

-- A mask has no bits but Lod (2), Grad (4), ConstOffset (8), Sample (64), SignExtend (4096), ZeroExtend (8192) and
-- Nontemporal (16384), and one of SignExtend and ZeroExtend at most. Where an image is sampled it has one of Lod and
-- Grad, and not Sample; elsewhere it has not Grad. [3.14; own]
abbrev pub fits_use : Texels → ℕ → Bool
fits_use texels.Sampled m = (if has_bit m 2 then not (has_bit m 4) else has_bit m 4) && not (has_bit m 64)
fits_use _ m = not (has_bit m 4)

abbrev pub is_known : ℕ → Bool
is_known m = nat_eq (bit_and m 28750) m

abbrev pub is_mask : Texels → ℕ → Bool
is_mask k m = is_known m && (fits_use k m && not (has_bit m 4096 && has_bit m 8192))

-- How many values stand before those that the mask asks for: an image, a coordinate, and a texel that is written; and
-- where those of Grad, ConstOffset and Sample begin, and all end, in this order after that of Lod. [3.14]
abbrev pub before_of : Texels → ℕ
before_of texels.Written = 3
before_of _ = 2

abbrev pub count_if : Bool → ℕ → ℕ
count_if b n = if b then n else 0

abbrev pub grad_at : Texels → ℕ → ℕ
grad_at k m = before_of k + count_if (has_bit m 2) 1

abbrev pub offset_at : Texels → ℕ → ℕ
offset_at k m = grad_at k m + count_if (has_bit m 4) 2

abbrev pub sample_at : Texels → ℕ → ℕ
sample_at k m = offset_at k m + count_if (has_bit m 8) 1

abbrev pub values_end : Texels → ℕ → ℕ
values_end k m = sample_at k m + count_if (has_bit m 64) 1

-- the mask is such a one, and there are so many values
abbrev pub IsMasked : Texels → List ℕ → ℕ → Type 0
IsMasked k types m = IsTrue (is_mask k m) × (length types ≡ values_end k m)

-- where the mask has a bit, it holds
abbrev pub Where : Bool → Type 0 → Type 0
Where true P = P
Where false P = Unit {0}

-- of an image of the type o: Sample is there if and only if it has several samples [3.14]
abbrev pub IsSampleFit : List PlainInst → ℕ → ℕ → Type 0
IsSampleFit is m o = IsSomeAnd (image_behind is o) (λ i. has_bit m 64 ≡ nat_eq i.multisampled 1)

-- SignExtend and ZeroExtend are for texels of ints [3.14]
abbrev pub IsSignFit : List PlainInst → ℕ → ℕ → Type 0
IsSignFit is m t = Where (has_bit m 4096 || has_bit m 8192) (HasSort sort.Int is t)

-- The types of the values, of an image of the type o: that of Lod is a float where an image is sampled, and else an
-- int; those of Grad are floats, one for each coordinate but the layer; that of ConstOffset is so many ints, a
-- constant; that of Sample is an int. [3.14]
abbrev pub IsLod : List PlainInst → Texels → ℕ → Type 0
IsLod is texels.Sampled t = (w : ℕ) × IsFloat is t w
IsLod is _ t = IsSomeInt is t

abbrev pub IsPlane : List PlainInst → Sort → ℕ → ℕ → Type 0
IsPlane is s o t = HasSort s is t × Counts is (λ i. plane_in i.dim) (λ n m. n ≡ m) t o

abbrev pub IsAt : List ℕ → ℕ → (ℕ → Type 0) → Type 0
IsAt types k P = IsSomeAnd (slice_get types k) P

abbrev pub AreGrad : List PlainInst → List ℕ → ℕ → ℕ → Type 0
AreGrad is types o k = IsAt types k (IsPlane is sort.Float o) × IsAt types (k + 1) (IsPlane is sort.Float o)

abbrev pub IsOffset : List PlainInst → PlainInst → List ℕ → ℕ → ℕ → Type 0
IsOffset is i types o k = IsAt types k (IsPlane is sort.Int o) × IsConstantAt is i k

abbrev pub AreImageOperands : List PlainInst → PlainInst → Texels → List ℕ → ℕ → ℕ → Type 0
AreImageOperands is i k types m o = Where (has_bit m 2) (IsAt types (before_of k) (IsLod is k))
    × Where (has_bit m 4) (AreGrad is types o (grad_at k m))
    × Where (has_bit m 8) (IsOffset is i types o (offset_at k m))
    × Where (has_bit m 64) (IsAt types (sample_at k m) (IsSomeInt is))
