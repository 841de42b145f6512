use Rattle.std.proofs.Common.{[], drop, take, refl, lit≤}
use Rattle.elf_laws.proofs.Below.{suc_other}
use Rattle.elf_laws.specs.Files.{two_sections, zeros}
use Rattle.elf_laws.specs.Known.{extended_file, names_header}
use Rattle.elf_laws.proofs.written.files_that_are_written.Goals as goal

pub returns : goal.returns
returns c = record {
  two = record {
    small = lit≤ tt;
    order = 1;
    padding = zeros 7;
    rest = drop 52 two_sections;
    order_named = refl;
    seven = refl;
    fit = (lit≤ tt, (lit≤ tt, (lit≤ tt, (lit≤ tt, (lit≤ tt, (lit≤ tt, (lit≤ tt, (lit≤ tt, (lit≤ tt, (lit≤ tt, (lit≤ tt, (lit≤ tt, (lit≤ tt, tt)))))))))))));
    front = refl;
    sections_lie = record {
      somewhere = suc_other 55;
      entry = refl;
      count = refl;
      fit = ((lit≤ tt, (lit≤ tt, (lit≤ tt, (lit≤ tt, (lit≤ tt, (lit≤ tt, (lit≤ tt, (lit≤ tt, (lit≤ tt, (lit≤ tt, tt)))))))))), ((lit≤ tt, (lit≤ tt, (lit≤ tt, (lit≤ tt, (lit≤ tt, (lit≤ tt, (lit≤ tt, (lit≤ tt, (lit≤ tt, (lit≤ tt, tt)))))))))), tt));
      lie = record { before = take 56 two_sections; behind = []; at = refl; is = refl };
    };
    segments_lie = refl;
  };
  names = record {
    has_names = suc_other 0;
    section = names_header;
    there = refl;
    size = refl;
    lie = record { before = take 52 two_sections; behind = drop 56 two_sections; at = refl; is = refl };
  };
  extended = record {
    small = lit≤ tt;
    order = 1;
    padding = zeros 7;
    rest = drop 64 extended_file;
    order_named = refl;
    seven = refl;
    fit = (lit≤ tt, (lit≤ tt, (lit≤ tt, (lit≤ tt, (lit≤ tt, (lit≤ tt, (lit≤ tt, (lit≤ tt, (lit≤ tt, (lit≤ tt, (lit≤ tt, (lit≤ tt, (lit≤ tt, tt)))))))))))));
    front = refl;
    sections_lie = record {
      somewhere = suc_other 63;
      entry = refl;
      count = refl;
      fit = ((lit≤ tt, (lit≤ tt, (lit≤ tt, (lit≤ tt, (lit≤ tt, (lit≤ tt, (lit≤ tt, (lit≤ tt, (lit≤ tt, (lit≤ tt, tt)))))))))), tt);
      lie = record { before = take 64 extended_file; behind = drop 128 extended_file; at = refl; is = refl };
    };
    segments_lie = record {
      somewhere = suc_other 127;
      entry = refl;
      count = refl;
      fit = ((lit≤ tt, (lit≤ tt, (lit≤ tt, (lit≤ tt, (lit≤ tt, (lit≤ tt, (lit≤ tt, (lit≤ tt, tt)))))))), tt);
      lie = record { before = take 128 extended_file; behind = []; at = refl; is = refl };
    };
  };
}
