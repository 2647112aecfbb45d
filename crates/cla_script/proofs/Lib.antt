pub mod LinePieces
pub mod SpanTokens
