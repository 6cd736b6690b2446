-- What a call answers, in words.
use Rattle.std.specs.Prelude.{List, [], ◌∷◌, ◌++◌, ℕ}
use Rattle.base.specs.declared.answer.Answer.{Answer}
use Rattle.base.specs.declared.answer.Answer.TheVariants.{Done, Ignored, NotYet, Already, Refused}
use Rattle.lines.specs.Decimal.{digits_of}

-- `refused` and a space
abbrev pub refused_text : List ℕ
refused_text = 114 ∷ 101 ∷ 102 ∷ 117 ∷ 115 ∷ 101 ∷ 100 ∷ 32 ∷ []

-- `done`, `ignored`, `notyet`, `already`, `refused` and the number
abbrev pub answer_text : Answer → List ℕ
answer_text Done = 100 ∷ 111 ∷ 110 ∷ 101 ∷ []
answer_text Ignored = 105 ∷ 103 ∷ 110 ∷ 111 ∷ 114 ∷ 101 ∷ 100 ∷ []
answer_text NotYet = 110 ∷ 111 ∷ 116 ∷ 121 ∷ 101 ∷ 116 ∷ []
answer_text Already = 97 ∷ 108 ∷ 114 ∷ 101 ∷ 97 ∷ 100 ∷ 121 ∷ []
answer_text (Refused number) = refused_text ++ digits_of number
