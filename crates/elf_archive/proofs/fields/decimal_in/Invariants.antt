use Rattle.std.proofs.Common.{◌≡◌, drop}
use Rattle.elf_archive.specs.Fields.{decimal_in, with_digits}
use Rattle.elf_archive.proofs.fields.decimal_in.Given as goal

-- the number so far, with the digits that are left after it, is that of all digits
abbrev pub invariant-loop-digit : goal.invariant-loop-digit
invariant-loop-digit l = with_digits l.number (drop l.digit-index l.digits) ≡ decimal_in l.digits
