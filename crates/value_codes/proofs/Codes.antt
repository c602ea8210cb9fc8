-- The law of codes, by the codec of each sound type.
use Rattle.value_codes.proofs.Coding.{sound_good}
use Rattle.value_codes.specs.Laws.{ValuesCode}

pub values_code : ValuesCode
values_code = record {
  there = λ k sound. (sound_good k sound).there;
  back = λ k sound c of. let f = (sound_good k sound).back c of in record { value = f.value; decodes = f.decoded; encodes = f.encoded };
}
