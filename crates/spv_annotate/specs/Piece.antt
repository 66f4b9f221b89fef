-- The pieces that the text for reading is put together from, one behind the other. (Own.)
use Rattle.std.specs.Prelude.{◌≡◌, ◌++◌, ℕ, List, [], ◌∷◌, Bool, true, false, codes}
use Rattle.std.specs.List.{flat_map}
use Rattle.spv_annotate.specs.declared.piece.Piece.{Piece}
use Rattle.spv_annotate.specs.declared.piece.Piece.TheVariants as code

-- a piece, without where its text lies in memory: a line of the header; with the instruction of that number a section
-- begins, told by its own number, a function or a block; the line of that instruction; a comment behind it; a line of
-- evidence; the end of a line
pub data PlainPiece : Type 0 where
  Header : List ℕ → PlainPiece
  Section : ℕ → ℕ → PlainPiece
  Function : ℕ → PlainPiece
  Block : ℕ → PlainPiece
  Line : ℕ → List ℕ → PlainPiece
  Comment : List ℕ → PlainPiece
  Mark : List ℕ → PlainPiece
  Break : PlainPiece

-- a piece of the code
abbrev pub plain_piece : Piece → PlainPiece
plain_piece (code.Header t) = Header t.now
plain_piece (code.Section n s) = Section n s
plain_piece (code.Function n) = Function n
plain_piece (code.Block n) = Block n
plain_piece (code.Line n t) = Line n t.now
plain_piece (code.Comment t) = Comment t.now
plain_piece (code.Mark t) = Mark t.now
plain_piece code.Break = Break

-- a text between the sequences of a terminal that begin a colour and end it, or as it is
abbrev pub colored : Bool → List ℕ → List ℕ → List ℕ
colored true begin text = begin ++ text ++ (27 ∷ codes "[0m")
colored false begin text = text

-- what a piece is in the text for reading, in colours or without: a section and a function begin with an empty line
abbrev pub text_of : Bool → PlainPiece → List ℕ
text_of color (Header t) = t
text_of color (Section n s) = 10 ∷ []
text_of color (Function n) = 10 ∷ []
text_of color (Block n) = []
text_of color (Line n t) = t
text_of color (Comment t) = colored color (27 ∷ codes "[2m") t
text_of color (Mark t) = colored color (27 ∷ codes "[31m") t
text_of color Break = 10 ∷ []

-- What a pen wrote: some pieces.
pub record IsWritten {T : Type 0} (text : T → List ℕ) (writes : T → PlainPiece → List ℕ) (pieces : List PlainPiece)
    (old new : T) : Type 0 where
  pub same : writes new ≡ writes old
  pub all : text new ≡ text old ++ flat_map (writes old) pieces
