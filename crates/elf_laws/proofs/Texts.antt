-- The text of a list of calls that all have an answer.
use Rattle.std.proofs.Common.{◌≡◌, ℕ, List, [], ◌∷◌, ◌++◌, Result, Ok, Err, refl, ap, sym, ◌∙◌}
use Rattle.std.specs.List.{AllByRecursion}
use Rattle.std.specs.Result.{IsOk}
use Rattle.elf_records.specs.Number.{ok_map}
use Rattle.elf_records.specs.Record.{◌>>=◌}
use Rattle.elf_records.specs.declared.file.FileHeader.{FileHeader}
use Rattle.elf_records.specs.declared.parse.ParseError.{ParseError}
use Rattle.elf.specs.ObjectFile.{ObjectFile}
use Rattle.elfshow.specs.Question.{Question}
use Rattle.elfshow.specs.Text.{call_answer, or_refused, text}
use Rattle.elf_laws.specs.Answers.{IsAnswered, IsFitting, sure_answer, sure_texts}

joined : (r q : Result (List ℕ) ParseError) → IsOk r → r ≡ q → (rest : Result (List ℕ) ParseError) (after : List ℕ) → rest ≡ Ok after → (q >>= λ one. ok_map (λ others. one ++ others) rest) ≡ Ok (or_refused r ++ after)
joined (Ok one) q ok same rest after e =
    ap (λ (x : Result (List ℕ) ParseError). x >>= λ one. ok_map (λ others. one ++ others) rest) (sym same)
    ∙ ap (ok_map (λ (others : List ℕ). one ++ others)) e
joined (Err d) q ok same rest after e = absurd (cc ok)

pub texts_joined : {E : Type 0} (header : FileHeader E) (file : ObjectFile) → ((call : Question) → IsFitting file call → IsAnswered header file call) → (calls : List Question) → AllByRecursion (IsFitting file) calls → sure_texts header file calls ≡ Ok (text header file calls)
texts_joined header file each [] fit = refl
texts_joined header file each (call ∷ calls) fit =
    let here = each call fit.0 in
    joined (call_answer header file call) (sure_answer header file call) here.ok here.same (sure_texts header file calls) (text header file calls) (texts_joined header file each calls fit.1)
