-- Of each production: what the grammar derives and begins, the parser's tests of the tokens ahead do not lose.
pub mod LosesNothing
pub mod EachProduction
pub mod TestedLoops
pub mod SuffixEnds
pub mod DeclaratorAttributes
pub mod SuffixAttributes
pub mod ParameterList
pub mod Parameter
pub mod ParameterDeclarator
pub mod AbstractDeclarator
pub mod LastCommas
pub mod ParenthesizedExpression
pub mod CastAndSizeof
pub mod Declaration
pub mod BlockItems
pub mod FunctionOrDeclaration
