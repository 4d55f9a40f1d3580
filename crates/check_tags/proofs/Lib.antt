mod TurnLaws
mod TagLaws
mod EnumLaws
mod VoidLaws
