-- What an image type says of its images, and what rows ask of types of images, of coordinates and of texels. [3.49.6
-- OpTypeImage; 3.49.10; own: Y5]
use Rattle.std.specs.Prelude.{◌≡◌, ◌⊎◌, ◌≤◌, ◌+◌, ℕ, List, Option, Some, None, nat_eq, if◌then◌else◌, IsSomeAnd}
use Rattle.std.specs.Prelude.{option_and_then, option_map, Bool, not, nat_le, ◌&&◌, ◌||◌, IsTrue}
use Rattle.spv_module.specs.Operand.{PlainInst}
use Rattle.spv_type_forms.specs.declared.form.Form.{Form}
use Rattle.spv_type_forms.specs.declared.form.Form.TheVariants as form
use Rattle.spv_type_forms.specs.declared.form.Sort.TheVariants as sort
use Rattle.spv_type_forms.specs.Form.{form_of}
use Rattle.spv_type_forms.specs.Types.{components_of, HasSort, IsPointer}
use Rattle.spv_type_forms.specs.declared.objects.Image.{Image}
use Rattle.spv_type_forms.specs.Objects.{image_of}
use Rattle.spv_type_kinds.specs.declared.kinds.Images.{Images}
use Rattle.spv_type_kinds.specs.declared.kinds.Images.TheVariants as images

-- the image type behind a type: itself, the one of which it is the sampled image type, or that it points to [own]
abbrev pub behind_in : ℕ → Form → ℕ
behind_in t (form.SampledImage i) = i
behind_in t (form.Pointer class p) = p
behind_in t f = t

abbrev pub image_behind : List PlainInst → ℕ → Option Image
image_behind is t = option_and_then (λ f. image_of is (behind_in t f)) (form_of is t)

-- How many coordinates a dimension has: 1D (0) and Buffer (5) one, 2D (1) and Rect (4) two, 3D (2) and Cube (3) three;
-- an image, with its layer; its size [3.3; 3.49.10]
abbrev pub plane_in : ℕ → Option ℕ
plane_in d = if nat_eq d 0 || nat_eq d 5 then Some 1
    else (if nat_eq d 1 || nat_eq d 4 then Some 2
    else (if nat_eq d 2 || nat_eq d 3 then Some 3 else None))

abbrev pub places_in : Image → Option ℕ
places_in m = option_map (λ n. n + m.arrayed) (plane_in m.dim)

abbrev pub extent_in : Image → Option ℕ
extent_in m = if nat_eq m.dim 3 then Some (2 + m.arrayed) else places_in m

-- images of a type may be sampled; fetched from; read and written; have levels with sizes, and levels; have a size that
-- is asked for without a level; have several samples [3.49.10]
abbrev pub has_images : Images → Image → Bool
has_images images.Sampled m = nat_le m.sampled 1
has_images images.Fetched m = not (nat_eq m.dim 3) && nat_eq m.sampled 1
has_images images.Stored m = nat_eq m.sampled 0 || nat_eq m.sampled 2
has_images images.Sized m = nat_le m.dim 3 && nat_eq m.multisampled 0
has_images images.Leveled m = nat_le m.dim 3
has_images images.Flat m = nat_le m.dim 5 && (nat_le 4 m.dim || (nat_eq m.multisampled 1
    || (nat_eq m.sampled 0 || nat_eq m.sampled 2)))
has_images images.Multisampled m = nat_eq m.dim 1 && nat_eq m.multisampled 1

abbrev pub IsImage : List PlainInst → Images → ℕ → Type 0
IsImage is k t = IsSomeAnd (image_of is t) (λ m. IsTrue (has_images k m))

-- a sampled image type of images without several samples [3.49.10 OpImageSampleExplicitLod]
abbrev pub IsSampled : List PlainInst → ℕ → Type 0
IsSampled is t = ((i : ℕ) × (form_of is t ≡ Some (form.SampledImage i)))
    × IsSomeAnd (image_behind is t) (λ m. m.multisampled ≡ 0)

-- A pointer of the class Image (11) to the sampled type of the images behind the type u. [3.49.10 OpImageTexelPointer]
abbrev pub IsTexelPointer : List PlainInst → ℕ → ℕ → Type 0
IsTexelPointer is t u = IsSomeAnd (image_behind is u) (λ m. IsPointer is t 11 m.sampled_type)

-- So many components of the type t: as many as an image behind the type u has coordinates; at least as many; as many as
-- its size. [3.49.10]
abbrev pub Counts : List PlainInst → (Image → Option ℕ) → (ℕ → ℕ → Type 0) → ℕ → ℕ → Type 0
Counts is f P t u = IsSomeAnd (image_behind is u) (λ m. IsSomeAnd (f m) (λ n.
    IsSomeAnd (components_of is t) (λ c. P n c.count)))

abbrev pub IsNumeric : List PlainInst → ℕ → Type 0
IsNumeric is t = HasSort sort.Int is t ⊎ HasSort sort.Float is t

-- The type t is that of texels of an image behind the type u: of ints or floats, of the sampled type, if that is not
-- void. [3.49.10]
abbrev pub component_in : ℕ → Form → ℕ
component_in t (form.Vector c n) = c
component_in t f = t

abbrev pub component_of : List PlainInst → ℕ → Option ℕ
component_of is t = option_map (λ f. component_in t f) (form_of is t)

abbrev pub IsOfSampledType : List PlainInst → ℕ → ℕ → Type 0
IsOfSampledType is t u = IsSomeAnd (image_behind is u) (λ m.
    (form_of is m.sampled_type ≡ Some form.Void) ⊎ (component_of is t ≡ Some m.sampled_type))

abbrev pub IsTexel : List PlainInst → ℕ → ℕ → Type 0
IsTexel is t u = IsNumeric is t × IsOfSampledType is t u

-- Ints, one for each coordinate of an image; ints, or ints or floats, one for each or more; ints, one for each number
-- of its size. [3.49.10]
abbrev pub IsPlace : List PlainInst → ℕ → ℕ → Type 0
IsPlace is t u = HasSort sort.Int is t × Counts is places_in (λ n m. n ≡ m) t u

abbrev pub IsIntCoordinate : List PlainInst → ℕ → ℕ → Type 0
IsIntCoordinate is t u = HasSort sort.Int is t × Counts is places_in (λ n m. n ≤ m) t u

abbrev pub IsCoordinate : List PlainInst → ℕ → ℕ → Type 0
IsCoordinate is t u = IsNumeric is t × Counts is places_in (λ n m. n ≤ m) t u

abbrev pub IsExtent : List PlainInst → ℕ → ℕ → Type 0
IsExtent is t u = HasSort sort.Int is t × Counts is extent_in (λ n m. n ≡ m) t u
