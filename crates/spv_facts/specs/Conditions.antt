-- The words for what is asked of types and literals (Y2, Y4 and Y5). (Own.)
use Rattle.std.specs.Prelude.{ℕ, zero, List, codes}
use Rattle.spv_evidence.specs.declared.condition.Condition.{Condition}
use Rattle.spv_evidence.specs.declared.condition.Condition.TheVariants as condition
use Rattle.spv_type_kinds.specs.declared.kinds.Kind.{Kind}
use Rattle.spv_type_kinds.specs.declared.kinds.Kind.TheVariants as kind
use Rattle.spv_type_kinds.specs.declared.kinds.Relation.{Relation}
use Rattle.spv_type_kinds.specs.declared.kinds.Images.{Images}
use Rattle.spv_type_kinds.specs.declared.kinds.Images.TheVariants as images
use Rattle.spv_type_kinds.specs.declared.kinds.Object.{Object}
use Rattle.spv_type_kinds.specs.declared.kinds.Object.TheVariants as object
use Rattle.spv_type_kinds.specs.declared.kinds.Relation.TheVariants as relation

-- The words for conditions: 'it' is the operand, and its type the result type, where it is that, and else the one that
-- its id is declared with.
abbrev pub object_text : Object → List ℕ
object_text object.Image = codes "its type is an image type"
object_text object.Sampler = codes "its type is a sampler type"
object_text object.Event = codes "its type is an event type"
object_text object.DeviceEvent = codes "its type is a device event type"
object_text object.ReserveId = codes "its type is a reserve id type"
object_text object.Queue = codes "its type is a queue type"
object_text object.Pipe = codes "its type is a pipe type"
object_text object.PipeStorage = codes "its type is a pipe storage type"
object_text object.NamedBarrier = codes "its type is a named barrier type"

abbrev pub pointer_text : Object → List ℕ
pointer_text object.Image = codes "its type is a pointer to an image type"
pointer_text object.Sampler = codes "its type is a pointer to a sampler type"
pointer_text object.Event = codes "its type is a pointer to an event type"
pointer_text object.DeviceEvent = codes "its type is a pointer to a device event type"
pointer_text object.ReserveId = codes "its type is a pointer to a reserve id type"
pointer_text object.Queue = codes "its type is a pointer to a queue type"
pointer_text object.Pipe = codes "its type is a pointer to a pipe type"
pointer_text object.PipeStorage = codes "its type is a pointer to a pipe storage type"
pointer_text object.NamedBarrier = codes "its type is a pointer to a named barrier type"

abbrev pub image_text : Images → List ℕ
image_text images.Sampled = codes "its type is an image type whose images may be sampled"
image_text images.Fetched = codes "its type is an image type whose images are sampled, and no cubes"
image_text images.Stored = codes "its type is an image type whose images may be used without a sampler"
image_text images.Sized = codes "its type is an image type of 1D, 2D, 3D or cube images without several samples"
image_text images.Leveled = codes "its type is an image type of 1D, 2D, 3D or cube images"
image_text images.Flat = codes "its type is an image type whose images have one size"
image_text images.Multisampled = codes "its type is an image type of 2D images with several samples"

abbrev pub kind_text : Kind → List ℕ
kind_text kind.Int = codes "its type is an int"
kind_text kind.Int32 = codes "its type is an int of width 32"
kind_text kind.Number = codes "its type is an int or a float"
kind_text kind.Bool = codes "its type is bool"
kind_text kind.Data = codes "its type is a data type"
kind_text kind.Ints = codes "its type is an int or a vector of ints"
kind_text kind.Floats = codes "its type is a float or a vector of floats"
kind_text kind.Bools = codes "its type is bool or a vector of bools"
kind_text kind.Pointer = codes "its type is a pointer"
kind_text kind.FunctionPointer = codes "its type is a pointer of the storage class Function"
kind_text kind.GenericPointer = codes "its type is a pointer of the storage class Generic"
kind_text kind.NamedPointer = codes "its type is a pointer of the storage class Workgroup, CrossWorkgroup or Function"
kind_text kind.Vector = codes "its type is a vector"
kind_text kind.Composite = codes "its type is a vector, a struct or an array"
kind_text kind.Plain = codes "its type is a data type, and not one of objects"
kind_text kind.Scalars = codes "its type is a scalar or a vector"
kind_text kind.Floats32 = codes "its type is a float of width 32 or a vector of them"
kind_text kind.FewInts = codes "its type is an int or a vector of two or three ints"
kind_text kind.Ballot = codes "its type is a vector of four ints of width 32"
kind_text kind.Int8Pointer = codes "its type is a pointer to an int of width 8"
kind_text kind.Int32Pointer = codes "its type is a pointer to an int of width 32"
kind_text kind.PlainPointer =
    codes "its type is a pointer to a data type that is not one of objects"
kind_text kind.GlobalPointer = codes "its type is a pointer of the storage class CrossWorkgroup"
kind_text kind.Size = codes "its type is an int as wide as the addressing model has sizes"
kind_text kind.Sizes =
    codes "its type is an int as wide as the addressing model has sizes, or an array of two or three of them"
kind_text kind.RangeStruct = codes "its type is a struct of an int of width 32 and three arrays of three sizes"
kind_text kind.Range =
    codes "its type is a struct of an int of width 32 and three arrays of three sizes, or a pointer to one"
kind_text kind.NumbersPointer = codes "its type is a pointer to ints or floats"
kind_text kind.SampledImage = codes "its type is a sampled image type of images without several samples"
kind_text kind.Four = codes "its type is a vector of four components"
kind_text (kind.Object o) = object_text o
kind_text (kind.ObjectPointer o) = pointer_text o
kind_text (kind.Pipe zero) = codes "its type is a pipe type of the access qualifier ReadOnly"
kind_text (kind.Pipe a) = codes "its type is a pipe type of the access qualifier WriteOnly"
kind_text (kind.Image k) = image_text k

abbrev pub relation_text : Relation → List ℕ
relation_text relation.Same = codes "its type is the one that is wanted"
relation_text relation.SameCount = codes "its type has as many components as the wanted one"
relation_text relation.OtherWidth = codes "its type has components of another width than the wanted one"
relation_text relation.SameBits =
    codes "its type has as many bits as the wanted one, or both are pointers of one storage class"
relation_text relation.Chooses =
    codes "its type is bool, or a vector of as many bools as the wanted type, a vector, has components"
relation_text relation.PointsTo = codes "its type is a pointer to the wanted one"
relation_text relation.SamePointee = codes "its type and the wanted one are pointers to one type"
relation_text relation.SameClass = codes "its type and the wanted one are pointers of one storage class"
relation_text relation.VectorOf = codes "its type is a vector of the wanted one"
relation_text relation.ComponentOf = codes "its type is the component type of the wanted one, a vector"
relation_text relation.SameComponent = codes "its type is a vector of the same component type as the wanted one"
relation_text relation.PairOf = codes "its type is a struct of two members of the wanted one"
relation_text relation.Across =
    codes "its type and the wanted one are pointers, one of the storage class Workgroup and one of CrossWorkgroup"
relation_text relation.SampledImageOf = codes "its type is the sampled image type of the wanted one, an image type"
relation_text relation.TexelPointer =
    codes "its type is a pointer of the storage class Image to the sampled type of the images"
relation_text relation.Place = codes "its type has an int for each coordinate of the images"
relation_text relation.IntCoordinate = codes "its type has an int for each coordinate of the images, or more"
relation_text relation.Coordinate = codes "its type has an int or a float for each coordinate of the images, or more"
relation_text relation.Extent = codes "its type has an int for each number of the size of the images"
relation_text relation.Texel = codes "its type has the components of the texels of the images"
relation_text relation.Matches = codes "its type is another than the wanted one, and matches it"

abbrev pub condition_text : Condition → List ℕ
condition_text (condition.Kind k) = kind_text k
condition_text (condition.Relation r) = relation_text r
condition_text condition.Weights = codes "there are no weights, or two"
condition_text condition.StorageClass = codes "the storage class is that of the pointer"
condition_text condition.ClassHere =
    codes "in a function the storage class is Function, outside neither Function nor Generic"
condition_text condition.Initializer = codes "the initializer is a constant or a variable outside functions"
condition_text condition.InitializerType = codes "its type is the one that is pointed to"
condition_text condition.Chosen =
    codes "at a struct the index is an OpConstant, the number of a member; else the type before it has parts"
condition_text condition.Leads = codes "its type is a pointer to the one that the indexes lead to"
condition_text condition.IntWidth = codes "the width is 8, 16, 32 or 64"
condition_text condition.Signedness = codes "the signedness is 0"
condition_text condition.FloatWidth = codes "the width is 16, 32 or 64"
condition_text condition.Scalar = codes "the component type is an int, a float or bool"
condition_text condition.VectorCount = codes "the count is 2, 3, 4, 8 or 16"
condition_text condition.Length = codes "the length is a constant of int type, 1 or more"
condition_text condition.Pointee = codes "it is a data type or an opaque type"
condition_text condition.Returned = codes "it is a data type or void"
condition_text condition.Forward = codes "it is a pointer of this storage class that is declared later"
condition_text condition.SampledType = codes "the sampled type is void, an int or a float"
condition_text condition.Depth = codes "the depth is 0, 1 or 2"
condition_text condition.Arrayed = codes "Arrayed is 0 or 1"
condition_text condition.SampleCount = codes "MS is 0 or 1"
condition_text condition.SampledUse = codes "Sampled is 0, 1 or 2"
condition_text condition.Dimension = codes "it is an image type of another dimension than Buffer and SubpassData"
condition_text condition.Operands = codes "the operands are those of the opcode"
condition_text condition.FitsWidth = codes "the number fits the width of its type"
condition_text condition.Nullable = codes "its type is a data type that has a null value"
condition_text condition.Normalized = codes "it is 0 or 1, as coordinates are not normalized or are"
condition_text condition.Count = codes "there are as many constituents as the type has parts"
condition_text condition.Constituent = codes "it is a constant or an OpUndef, of the type of the part at its place"
condition_text condition.Indexes = codes "there is an index"
condition_text condition.Within = codes "the index is that of a part of the type that the indexes before it lead to"
condition_text condition.Reached = codes "its type is the one that the indexes lead to"
condition_text condition.ComponentCount = codes "its type has as many components as there are literals"
condition_text condition.Component = codes "the literal is the number of a component of the two vectors, or 4294967295"
condition_text condition.Several = codes "there are two constituents or more"
condition_text condition.Share = codes "its type is the wanted one, or a vector of it"
condition_text condition.Filled = codes "the constituents have as many components together as its type, a vector"
condition_text condition.Part = codes "its type is that of the part at its place"
condition_text condition.CastClass = codes "the storage class is that of the pointer"
condition_text condition.Scan = codes "the group operation is Reduce, InclusiveScan or ExclusiveScan"
condition_text condition.Cluster =
    codes "there is a size of clusters if and only if the group operation is ClusteredReduce"
condition_text condition.ClusterSize = codes "the size of the clusters is a constant of int type"
condition_text condition.Constant = codes "it is a constant"
condition_text condition.Packed =
    codes "its type is an int of width 32 with a packed vector format, and else a vector of ints no wider than the result"
condition_text condition.ImageMask =
    codes "the image operands are such as the opcode takes, and there are as many as the mask asks for"
condition_text condition.ImageSample =
    codes "Sample is among the image operands if and only if the images have several samples"
condition_text condition.ImageSign = codes "SignExtend and ZeroExtend are for texels of ints"
condition_text condition.ImageOperands = codes "each image operand has the type that the mask asks for"
condition_text condition.Extended =
    codes "outside blocks the instruction gives void, and its set is one of debug information or non-semantic"
condition_text condition.ModeIds = codes "the operands after the mode are constants of int type, one or more"
condition_text condition.DecorationIds =
    codes "the operands after the decoration are constants or variables outside functions, one or more"
condition_text condition.Texts = codes "the operands after the decoration are texts, one or more"
condition_text condition.Group = codes "the first operand is an OpDecorationGroup"
condition_text condition.NoMoreGroups = codes "no operand after the first is an OpDecorationGroup"
condition_text condition.Members =
    codes "each id is that of a struct type, and the literal below it the number of a member"
condition_text condition.Block =
    codes "the function returns void, and its first parameter has the type of the first value of the block"
condition_text condition.LocalSizes = codes "each value after the block is an int or a pointer to an int"
condition_text condition.Locals = codes
    "the function has a parameter more for each of these values and no other, each a pointer of the storage class Workgroup"
