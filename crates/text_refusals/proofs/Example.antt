-- What is said of some refusals.
use mathlib.Core.Path.{◌≡◌, refl}
use mathlib.Core.List.{◌++◌}
use Rattle.answers.specs.declared.Refusal.TheVariants.{Range, Shared, NoLane}
use Rattle.answers.specs.declared.Answer.TheVariants.{Refused as No}
use Rattle.text_times.specs.Times.{decimals, fraction_text, time_text}
use Rattle.text_values.specs.Values.{value_text}
use Rattle.layout.specs.Entries.{lost_no, factor_no, button_no, cycle_entry, approach_place, through, EB, NB}
use Rattle.kinds.specs.Kinds.{kind_at}
use Rattle.text_names.specs.Names.{word_table, word_in, class_at}
use Rattle.text_values.specs.declared.Trouble.TheVariants.{Unknown, NotNumber}
use Rattle.std.specs.Prelude.{Err}
use Rattle.text_reader.specs.declared.Misreading.TheVariants.{Misread, Refused}
use Rattle.lists.specs.Lists.{table}
use Rattle.text.specs.Text.{ascii, joined, digits, decimal, first_in}
use Rattle.text_quotes.specs.Quotes.{shown, rest_mark, quoted}
use Rattle.text_phrases.specs.Phrases.{numbered, name_in}
use Rattle.text_places.specs.Places.{line_at, column_at, place_text}
use Rattle.text_refusals.specs.Refusals.{apart_text, span_text, limits_text, range_text, why_text, refusal_text, answer_text, reading_text}

time : range_text lost_no ≡ ascii "EBL lost-time is outside 0s to 20s\n"
unfolding ascii joined digits decimal decimals fraction_text time_text value_text kind_at class_at word_table word_in name_in apart_text span_text limits_text range_text
time = refl

apart : range_text factor_no ≡ ascii "EBL lane-factor is outside 0 or 0.5 to 1\n"
unfolding ascii joined digits decimal decimals fraction_text value_text kind_at class_at word_table word_in name_in apart_text span_text limits_text range_text
apart = refl

range : answer_text (No Range (approach_place EB button_no)) ≡ ascii "R3: EB push-button is outside 0 to 1\n"
unfolding ascii joined digits decimal numbered value_text kind_at class_at word_table word_in name_in apart_text span_text limits_text range_text why_text refusal_text
range = refl

shared : answer_text (No Shared NB) ≡ ascii "R4: NB: a shared lane needs a through lane and no left lane beside it; a single point takes none\n"
unfolding ascii joined digits decimal numbered word_table word_in name_in why_text refusal_text
shared = refl

no_lane : answer_text (No NoLane (through NB)) ≡ ascii "R5: NBT: vehicles, and no lane that takes them\n"
unfolding ascii joined digits decimal numbered word_table word_in name_in why_text refusal_text
no_lane = refl

misread : reading_text (ascii "EBL lanes 2\nvolume x") (Err (Misread (record { why = NotNumber; place = 19 }))) ≡ ascii "line 2, column 8: a whole number without a unit is expected here\n"
unfolding ascii digits decimal numbered line_at column_at place_text
misread = refl

unknown : reading_text (ascii "EBL lane\u{1} 1") (Err (Misread (record { why = Unknown; place = 4 }))) ≡ ascii "line 1, column 5: \"lane?\": no movement, approach or entry has this name\n"
unfolding ascii table first_in shown rest_mark quoted digits decimal numbered line_at column_at place_text
unknown = refl

cycle : answer_text (No Range cycle_entry) ≡ ascii "R3: junction cycle is outside 30 to 240\n"
unfolding ascii joined digits decimal numbered value_text kind_at class_at word_table word_in name_in apart_text span_text limits_text range_text why_text refusal_text
cycle = refl

refused : reading_text (ascii "junction cycle 29") (Err (Refused Range cycle_entry 15)) ≡ ascii "line 1, column 16: " ++ answer_text (No Range cycle_entry)
unfolding ascii digits decimal numbered line_at column_at place_text
refused = refl
