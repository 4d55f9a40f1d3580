-- Lists of specifiers, piece by piece: the parser derives and begins what the grammar does.
pub mod WhatRemains
pub mod ListInPieces
pub mod OpenLists
pub mod TestsOnPieces
pub mod EnumerationsParsed
pub mod PiecesParsed
pub mod ListsParsed
pub mod ListsFromPieces
pub mod PiecesAnywhere
pub mod FrontsAnywhere
pub mod PiecesDerived
pub mod PiecesOfGrammar
pub mod BegunPiecesOfGrammar
