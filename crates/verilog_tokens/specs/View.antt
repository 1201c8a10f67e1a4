-- The token that a lexeme is.
use Rattle.small_text.specs.Bytes.{number_of}
use Rattle.verilog_tokens.specs.Constants.{low_bits, fitted, digit_bits}
use Rattle.verilog_tokens.specs.Token as token
use Rattle.verilog_tokens.specs.declared.lexeme.Lexeme.{Lexeme}
use Rattle.verilog_tokens.specs.declared.lexeme.Lexeme.TheVariants.{Name, Key, Number, Decimal, Based, Text, Symbol, Open, Close}

abbrev pub token_of : Lexeme → token.Token
token_of (Name name) = token.Name name.now
token_of (Key word) = token.Key word.now
token_of (Number digits) = token.Number (number_of digits.now)
token_of (Decimal size value) = token.Constant (low_bits size value)
token_of (Based size width digits) = token.Constant (fitted size (digit_bits width digits.now))
token_of (Text string) = token.Text string.now
token_of (Symbol s) = token.Symbol s
token_of Open = token.Open
token_of Close = token.Close
