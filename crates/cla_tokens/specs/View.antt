-- What contracts see of a token and of an item.
use Rattle.cla_grammar.specs.Tokens as tokens
use Rattle.cla_grammar.specs.Tokens.{Placed}
use Rattle.cla_grammar.specs.Faults as faults
use Rattle.cla_tokens.specs.Values.{value}
use Rattle.cla_tokens.specs.declared.token.TokenKind.{TokenKind}
use Rattle.cla_tokens.specs.declared.token.Token.{Token}
use Rattle.cla_tokens.specs.declared.token.Item.{Item}

abbrev pub kind_of : TokenKind → tokens.Token
kind_of (TokenKind.Number d) = tokens.Number (value d.now)
kind_of (TokenKind.Name n) = tokens.Name n.now
kind_of (TokenKind.Text f) = tokens.Text f.now
kind_of (TokenKind.Sign o) = tokens.Sign o
kind_of TokenKind.Assign = tokens.Assign
kind_of TokenKind.Power = tokens.Power
kind_of TokenKind.Open = tokens.Open
kind_of TokenKind.Close = tokens.Close
kind_of TokenKind.OpenSquare = tokens.OpenSquare
kind_of TokenKind.CloseSquare = tokens.CloseSquare
kind_of TokenKind.Comma = tokens.Comma
kind_of TokenKind.Colon = tokens.Colon
kind_of (TokenKind.Function f) = tokens.Function f
kind_of (TokenKind.Binder f) = tokens.Binder f
kind_of TokenKind.Read = tokens.Read
kind_of TokenKind.Print = tokens.Print
kind_of (TokenKind.Save k) = tokens.Save k
kind_of TokenKind.Reserved = tokens.Reserved

abbrev pub token_of : Token → Placed
token_of t = record { place = t.place; token = kind_of t.kind }

abbrev pub item_of : Item → faults.Item
item_of (Item.Token t) = faults.Tok (token_of t)
item_of (Item.BadByte p) = faults.BadByte p
item_of (Item.BadText p) = faults.BadText p
item_of (Item.End p) = faults.End p
