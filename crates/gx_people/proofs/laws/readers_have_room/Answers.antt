use Rattle.gx_people.proofs.Users_sound.{readers_have_room, users_stay_sound}
use Rattle.gx_people.proofs.laws.readers_have_room.Goals as goal

pub returns : goal.returns
returns c = record { sound = users_stay_sound; room = readers_have_room }
