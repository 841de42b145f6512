use Rattle.std.specs.Prelude.{[]}
use Rattle.elf_laws.proofs.BuiltSound.{gnu_sound, sysv_sound}
use Rattle.elf_laws.proofs.GnuSound.{has_no_bloom_bit, has_not_in_run, has_shift, has_unreadable as has_unreadable_gnu, has_wrong_hash}
use Rattle.elf_laws.proofs.SysvSound.{has_endless, has_past_chains, has_unreadable, has_wrong_bucket}
use Rattle.elf_laws.specs.Files.{in_four}
use Rattle.elf_laws.specs.SoundSections.{gnu_with, sysv_with}
use Rattle.elf_laws.proofs.built.faulty_sections_are_not_built.Goals as goal

pub returns : goal.returns
returns c = record {
  endless = λ names put built. has_endless.0 (sysv_sound names put (sysv_with 8 (in_four 1)) built);
  past_chains = λ names put built. has_past_chains.0 (sysv_sound names put (sysv_with 8 []) built);
  sysv_unreadable = λ names put built. has_unreadable.0 (sysv_sound names put (sysv_with 11 (in_four 0)) built);
  wrong_bucket = λ names put built. has_wrong_bucket.0 (sysv_sound names put (sysv_with 8 (in_four 2)) built);
  shift = λ names built. has_shift.0 (gnu_sound names (gnu_with 3 32 0xc0 0x06 0x09) built);
  gnu_unreadable = λ names built. has_unreadable_gnu.0 (gnu_sound names (gnu_with 8 5 0xc0 0x06 0x09) built);
  wrong_hash = λ names built. has_wrong_hash.0 (gnu_sound names (gnu_with 3 5 0xc0 0x06 0x0b) built);
  no_bloom_bit = λ names built. has_no_bloom_bit.0 (gnu_sound names (gnu_with 3 5 0x40 0x06 0x09) built);
  not_in_run = λ names built. has_not_in_run.0 (gnu_sound names (gnu_with 3 5 0xc0 0x07 0x09) built);
}
