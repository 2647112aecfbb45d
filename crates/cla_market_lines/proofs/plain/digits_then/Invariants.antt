use Rattle.std.proofs.Common.{◌≡◌, ◌<◌, ◌^◌, true, take}
use Rattle.std.specs.List.{list_all}
use Rattle.std.specs.Char.{is_ascii_digit}
use Rattle.std.specs.Str.Parse.{digits_value}
use Rattle.cla_market_lines.proofs.plain.digits_then.Given as goal

-- the bytes so far are digits, and this is their value
abbrev pub invariant-loop-i : goal.invariant-loop-i
invariant-loop-i l = record {
  digits : list_all is_ascii_digit (take l.i l.bytes) ≡ true;
  value : l.size ≡ digits_value 10 (take l.i l.bytes);
  small : l.size < 2 ^ 64;
}
