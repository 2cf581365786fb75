-- Pieces, as contracts see them.
use Rattle.std.specs.Prelude.{List, map}
use Rattle.pieces.specs.View.{PieceView}
use Rattle.pieces.specs.declared.refinement.Piece.{Piece}

abbrev pub view_of : Piece → PieceView
view_of p = record { start = p.start; len = p.len; segs = p.segs.items }

abbrev pub view_all : List Piece → List PieceView
view_all pieces = map view_of pieces
