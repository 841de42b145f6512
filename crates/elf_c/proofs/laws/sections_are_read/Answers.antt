use Rattle.std.proofs.Common.{ℕ, ◌≡◌, subst}
use Rattle.std.specs.List.{slice_get}
use Rattle.std.specs.Result.{result_ok}
use Rattle.elf_records.specs.Endian.{any_is_little}
use Rattle.elf_records.specs.declared.endian.AnyEndian.{AnyEndian}
use Rattle.elf_reading.specs.Opening.{FileView}
use Rattle.elf.specs.ObjectFile.{object_file}
use Rattle.elf.specs.Answers.{first_named, section_header_by_name}
use Rattle.elf.specs.Data.{section_data}
use Rattle.elf.specs.Names.{name_table}
use Rattle.elf_records.specs.StringTable.{string_at}
use Rattle.elf_c.specs.File.{file_of_c, file_view}
use Rattle.elf_c.proofs.Checked.{listed, mapped, name_read, succeeds}
use Rattle.elf_c.proofs.laws.sections_are_read.Goals as goal

pub returns : goal.returns
returns c =
    let whole = file_of_c c.args.file.now in
    let Listed : FileView AnyEndian → Type 0 = λ v.
    (i : ℕ) → slice_get (object_file any_is_little v).sections i ≡ result_ok ((object_file any_is_little v).section_at i) in
    let is_listed : Listed (file_view c.args.file.now) = subst Listed c.file_in.ensures c.sections_are_listed.ensures in
    λ sound. record {
      names = succeeds (name_table whole) sound.names;
      by_name = λ name.
          succeeds (section_header_by_name whole name) (mapped (first_named whole.sections name) (name_table whole) sound.names);
      headers = λ i less. succeeds (whole.section_at i) (listed (whole.section_at i) whole.sections i (is_listed i) less);
      content = λ i s is. succeeds (section_data whole s) (sound.sections i s is).bytes;
      name = λ i s strings is named.
          succeeds (string_at strings s.sh_name) (name_read (name_table whole) s strings named (sound.sections i s is).name);
    }
